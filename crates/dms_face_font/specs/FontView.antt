-- What the code's answers are, where memory does not fail (this profile).
use Rattle.std.specs.Prelude.{◌≡◌, ◌⊎◌, Result, Ok, Err}
use Rattle.dms_face_font.specs.declared.fault.FontFault.{FontFault}
use Rattle.dms_face_font.specs.declared.fault.FontFaultKind.{FontFaultKind}
use Rattle.dms_face_font.specs.declared.fault.FontFaultKind.TheVariants.{Memory}
use Rattle.dms_face_font.specs.declared.font_text.GlyphLine.{GlyphLine}
use Rattle.dms_face_font.specs.FontReading.{GlyphWords, fault}

abbrev pub glyph_line : GlyphLine → GlyphWords
glyph_line line = record { character = line.character; width = line.width; bits = line.bits.now }

-- the answer is the expected one, or that memory ran out
abbrev pub GivesOrMemory : {A B : Type 0} → (A → B) → Result A FontFaultKind → Result B FontFaultKind → Type 0
GivesOrMemory view (Ok value) expected = expected ≡ Ok (view value)
GivesOrMemory view (Err kind) expected = (kind ≡ Memory) ⊎ (expected ≡ Err kind)

-- the answer is the expected one, or that memory ran out, which has line 0
abbrev pub ReadsOrMemory : {A : Type 0} → Result A FontFault → Result A FontFault → Type 0
ReadsOrMemory (Ok value) expected = expected ≡ Ok value
ReadsOrMemory (Err found) expected = (found ≡ fault Memory 0) ⊎ (expected ≡ Err found)
