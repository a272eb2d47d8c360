-- A line of a description that is at fault, in numbers, as it is given to C (this profile).
use Rattle.std.specs.Prelude.{ℕ}
use Rattle.dms_face_font.specs.declared.fault.FontFaultKind.{FontFaultKind}
use Rattle.dms_face_font.specs.declared.fault.FontFaultKind.TheVariants as fonts
use Rattle.dms_sign_text_causes.specs.declared.cause.LineCause.{LineCause}
use Rattle.dms_sign_text_causes.specs.declared.cause.LineCause.TheVariants as causes
use Rattle.wisangub_c_causes.specs.declared.cause.CauseNumbers.{CauseNumbers}
use Rattle.wisangub_c_causes.specs.Causes.{of_line}
use Rattle.wisangub_c_causes.specs.WordCauses.{of_word}
use Rattle.wisangub_c_causes.specs.SignCauses.{of_sign}

-- why a font does not take a character; no other fault is a character's
abbrev pub glyph_kind : FontFaultKind → ℕ
glyph_kind fonts.Bitmap = 9
glyph_kind fonts.Twice = 10
glyph_kind fonts.TooMany = 11
glyph_kind kind = 0

-- the line begins with no word that may stand there
abbrev pub of_first_word : ℕ → CauseNumbers
of_first_word line = record (of_line line 6) { word = 1 }

-- why a description is refused at this line
abbrev pub description_cause : ℕ → LineCause → CauseNumbers
description_cause line (causes.Word fault) = of_word line fault
description_cause line causes.NoEnd = of_line line 5
description_cause line causes.Keyword = of_first_word line
description_cause line causes.RowAfterFont = of_line line 7
description_cause line causes.GlyphBeforeFont = of_line line 8
description_cause line (causes.Glyph kind) = of_line line (glyph_kind kind)
description_cause line causes.AfterEnd = of_line line 12
description_cause line (causes.Sign cause) = of_sign line cause
