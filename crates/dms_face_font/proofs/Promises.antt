-- What `from_text` promises, of what it reads.
use Rattle.std.proofs.Common.{◌≡◌, ℕ, List, Result, Ok, Err, sym, ap, ◌∙◌, ◌⊎◌, inl, inr, arith}
use Rattle.std.specs.Prelude.{IfOk, IfErr}
use Rattle.dms_face_font.specs.Font.{FontModel}
use Rattle.dms_face_font.specs.FontText.{SpellsFont}
use Rattle.dms_face_font.specs.FontReading.{font_read, fault}
use Rattle.dms_face_font.specs.FontView.{ReadsOrMemory}
use Rattle.dms_face_font.specs.declared.fault.FontFault.{FontFault}
use Rattle.dms_face_font.specs.declared.fault.FontFaultKind.TheVariants.{Memory}
use Rattle.dms_face_font.proofs.FontLaws.{font_found, font_only}

pub is_found : (text : List ℕ) (result : Result FontModel FontFault) → ReadsOrMemory result (font_read text) → IfOk result (λ (font : FontModel). SpellsFont text font)
is_found text result read = grind (arith, font_found)

pub is_only : (text : List ℕ) (result : Result FontModel FontFault) → ReadsOrMemory result (font_read text)
    → (font : FontModel) → SpellsFont text font → (result ≡ Ok font) ⊎ (result ≡ Err (fault Memory 0))
is_only text (Ok found) read font spelled = inl (sym read ∙ font_only text font spelled)
is_only text (Err found) (inl memory) font spelled = inr (ap Err memory)
is_only text (Err found) (inr read) font spelled = absurd (let both : Err found ≡ Ok font = sym read ∙ font_only text font spelled in cc)

pub is_none : (text : List ℕ) (result : Result FontModel FontFault) → ReadsOrMemory result (font_read text)
    → IfErr result (λ found. (found ≡ fault Memory 0) ⊎ ((font : FontModel) → SpellsFont text font → ⊥))
is_none text (Ok font) read = tt
is_none text (Err found) (inl memory) = inl memory
is_none text (Err found) (inr read) = inr (λ font spelled. absurd (let both : Err found ≡ Ok font = sym read ∙ font_only text font spelled in cc))
