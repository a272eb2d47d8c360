-- How it is said why a line of a description is refused (this profile).
use Rattle.std.specs.Prelude.{ℕ, List, ◌++◌, codes, decimal}
use Rattle.dms_face_font.specs.FaultTexts.{kind_text}
use Rattle.dms_text_forms.specs.Texts.{fault_text}
use Rattle.dms_face.specs.FaultTexts.{multi_fault_text}
use Rattle.dms_sign_text_causes.specs.declared.cause.LineCause.{LineCause}
use Rattle.dms_sign_text_causes.specs.declared.cause.LineCause.TheVariants as causes
use Rattle.dms_sign_text_causes.specs.declared.row_causes.RowCause.{RowCause}
use Rattle.dms_sign_text_causes.specs.declared.row_causes.RowCause.TheVariants as row
use Rattle.dms_sign_text_causes.specs.declared.sign_causes.SignCause.{SignCause}
use Rattle.dms_sign_text_causes.specs.declared.sign_causes.SignCause.TheVariants as sign

abbrev pub row_cause_text : RowCause → List ℕ
row_cause_text row.LongText = codes "its text is longer than 512 octets"
row_cause_text row.LongOwner = codes "its owner is longer than 127 octets"
row_cause_text row.Beacon = codes "its beacon is neither 0 nor 1"
row_cause_text row.Pixel = codes "its pixel service is neither 0 nor 1"
row_cause_text row.Priority = codes "its priority is 0"
row_cause_text row.NoBeacons = codes "the sign has no beacons"
row_cause_text row.NoPixelService = codes "the sign has no pixel service"
row_cause_text (row.Text fault) = codes "its text: " ++ multi_fault_text fault

abbrev pub sign_cause_text : SignCause → List ℕ
sign_cause_text sign.NoColumns = codes "the matrix has no columns"
sign_cause_text sign.Wide = codes "the matrix is wider than 256"
sign_cause_text sign.NoRows = codes "the matrix has no rows"
sign_cause_text sign.High = codes "the matrix is higher than 64"
sign_cause_text sign.NoFont = codes "there is no font"
sign_cause_text sign.FifthFont = codes "there are more than four fonts"
sign_cause_text (sign.FontTwice number) = codes "two fonts have the number " ++ decimal number
sign_cause_text (sign.Background number) = codes "the default background " ++ (decimal number ++ codes " is no colour")
sign_cause_text (sign.Foreground number) = codes "the default foreground " ++ (decimal number ++ codes " is no colour")
sign_cause_text (sign.Line number) = codes "the default line justification " ++ (decimal number ++ codes " is none")
sign_cause_text (sign.Page number) = codes "the default page justification " ++ (decimal number ++ codes " is none")
sign_cause_text (sign.Font number) = codes "the default font " ++ (decimal number ++ codes " is none of the face's")
sign_cause_text sign.Reader = codes "the first community has not 1 to 32 octets"
sign_cause_text sign.Writer = codes "the second community has not 1 to 32 octets"
sign_cause_text sign.SameCommunities = codes "both communities are the same"
sign_cause_text sign.PermanentRows = codes "there are more than 16 permanent rows"
sign_cause_text sign.ChangeableRows = codes "there are more than 64 changeable rows"
sign_cause_text sign.VolatileRows = codes "there are more than 16 volatile rows"
sign_cause_text (sign.Row number cause) =
    codes "permanent row " ++ (decimal number ++ (codes ": " ++ row_cause_text cause))

abbrev pub cause_text : LineCause → List ℕ
cause_text (causes.Word fault) = fault_text fault
cause_text causes.NoEnd = codes "the text ends before its line `end`"
cause_text causes.Keyword = codes "a row, a font, a character or `end` is wanted"
cause_text causes.RowAfterFont = codes "a permanent row stands before all fonts"
cause_text causes.GlyphBeforeFont = codes "a character stands after its font"
cause_text (causes.Glyph kind) = kind_text kind
cause_text causes.AfterEnd = codes "no line may stand after `end`"
cause_text (causes.Sign cause) = sign_cause_text cause
