-- Why a sign can not be made: its matrix, its fonts, its defaults, its communities, its rows (this profile).
use Rattle.std.specs.Prelude.{ℕ, ◌+◌, ◌&&◌, ◌||◌, Bool, not, if◌then◌else◌, List, [], ◌∷◌}
use Rattle.std.specs.Prelude.{length, nat_eq, nat_lt, nat_le, Option, Some, None, option_map}
use Rattle.std.specs.Option.{option_or}
use Rattle.std.specs.Cmp.Lexicographic.{pointwise}
use Rattle.dms_face_font.specs.Font.{FontModel}
use Rattle.dms_codes.specs.Limits.{widest_matrix, highest_matrix, has_community_size}
use Rattle.dms_codes.specs.Limits.{most_permanent_rows, most_changeable_rows, most_volatile_rows}
use Rattle.dms_face.specs.Face.{FaceModel, has_font, most_fonts}
use Rattle.dms_face.specs.declared.defaults.Defaults.{Defaults}
use Rattle.dms_table.specs.declared.row.Services.{Services}
use Rattle.dms_table.specs.Rows.{RowModel}
use Rattle.dms_sign_text_causes.specs.RowCauses.{row_cause}
use Rattle.dms_sign_text_causes.specs.declared.row_causes.RowCause.{RowCause}
use Rattle.dms_sign_text_causes.specs.declared.sign_causes.SignCause.{SignCause}
use Rattle.dms_sign_text_causes.specs.declared.sign_causes.SignCause.TheVariants as sign

-- ---- the face

abbrev pub matrix_cause : ℕ → ℕ → Option SignCause
matrix_cause width height =
    if nat_lt width 1 then Some sign.NoColumns
    else if nat_lt widest_matrix width then Some sign.Wide
    else if nat_lt height 1 then Some sign.NoRows
    else if nat_lt highest_matrix height then Some sign.High
    else None

-- the first number that two fonts have
abbrev pub number_twice : List FontModel → Option ℕ
number_twice [] = None
number_twice (font ∷ fonts) = if has_font fonts font.number then Some font.number else number_twice fonts

abbrev pub fonts_cause : List FontModel → Option SignCause
fonts_cause fonts =
    if nat_lt (length fonts) 1 then Some sign.NoFont
    else if nat_lt most_fonts (length fonts) then Some sign.FifthFont
    else option_map sign.FontTwice (number_twice fonts)

abbrev pub defaults_cause : List FontModel → Defaults → Option SignCause
defaults_cause fonts defaults =
    if nat_lt 9 defaults.background then Some (sign.Background defaults.background)
    else if nat_lt 9 defaults.foreground then Some (sign.Foreground defaults.foreground)
    else if nat_lt defaults.line 2 || nat_lt 4 defaults.line then Some (sign.Line defaults.line)
    else if nat_lt defaults.page 2 || nat_lt 4 defaults.page then Some (sign.Page defaults.page)
    else if not (has_font fonts defaults.font) then Some (sign.Font defaults.font)
    else None

abbrev pub face_cause : FaceModel → Option SignCause
face_cause face = option_or (matrix_cause face.width face.height)
    (option_or (fonts_cause face.fonts) (defaults_cause face.fonts face.defaults))

-- ---- the communities

abbrev pub communities_cause : List ℕ → List ℕ → Option SignCause
communities_cause reader writer =
    if not (has_community_size reader) then Some sign.Reader
    else if not (has_community_size writer) then Some sign.Writer
    else if pointwise nat_eq reader writer then Some sign.SameCommunities
    else None

-- ---- the rows

abbrev pub counts_cause : ℕ → ℕ → ℕ → Option SignCause
counts_cause permanent changeable volatile =
    if nat_lt most_permanent_rows permanent then Some sign.PermanentRows
    else if nat_lt most_changeable_rows changeable then Some sign.ChangeableRows
    else if nat_lt most_volatile_rows volatile then Some sign.VolatileRows
    else None

abbrev pub numbered_cause : ℕ → Option SignCause → Option RowCause → Option SignCause
numbered_cause number later None = later
numbered_cause number later (Some cause) = Some (sign.Row number cause)

-- the first row that can not stand, of rows that have the numbers from `number` on
abbrev pub rows_cause : Services → FaceModel → ℕ → List RowModel → Option SignCause
rows_cause services face number [] = None
rows_cause services face number (row ∷ rows) =
    numbered_cause number (rows_cause services face (number + 1) rows) (row_cause services face row)
