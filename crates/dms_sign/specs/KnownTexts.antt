-- Under which defaults the text of a valid row is known to be good (this profile).
use Rattle.std.specs.Prelude.{◌≡◌, ℕ, ◌+◌, ◌-◌, ◌<◌, Option, Some, None, get_or, set, replicate}
use Rattle.dms_codes.specs.Limits.{most_changeable_rows, most_writable_rows}
use Rattle.dms_face.specs.declared.defaults.Defaults.{Defaults}
use Rattle.dms_face.specs.Face.{FaceModel}
use Rattle.dms_face.specs.Layout.{under}
use Rattle.dms_table.specs.declared.writable.RowPlace.{RowPlace}
use Rattle.dms_table.specs.declared.writable.Writable.{Writable}
use Rattle.dms_table.specs.PlaceView.{writable, of_type}
use Rattle.dms_table.specs.Rows.{TableModel}
use Rattle.dms_table.specs.Validation.{HasGoodTextWhereValid}
use Rattle.dms_sign.specs.declared.known_texts.KnownTexts.{KnownTexts}

-- what is known of the permanent rows of a sign that is made with these defaults; of the others nothing is
abbrev pub first_known : Defaults → KnownTexts
first_known first = record { first = first; rows = replicate most_writable_rows None }

-- where the defaults of the first row of a type of memory are kept
abbrev pub first_entry : Writable → ℕ
first_entry memory = of_type memory 0 most_changeable_rows

-- the defaults that are kept for the row of a number, where there are such
abbrev pub kept_in : KnownTexts → Option Writable → ℕ → Option Defaults
kept_in known None number = Some known.first
kept_in known (Some memory) number = get_or known.rows (first_entry memory + (number - 1)) None

abbrev pub kept_for : KnownTexts → ℕ → ℕ → Option Defaults
kept_for known memory number = kept_in known (writable memory) number

-- there is room for the defaults of a row at this place
abbrev pub HasRoom : RowPlace → Type 0
HasRoom place = first_entry place.memory + place.index < most_writable_rows

-- the same, with these defaults for the row at a place
abbrev pub noted : KnownTexts → RowPlace → Defaults → KnownTexts
noted known place defaults =
    record known { rows = set known.rows (first_entry place.memory + place.index) (Some defaults) }

-- the text of each row for which defaults are kept, where it is valid, is good under them
abbrev pub AreKnown : KnownTexts → FaceModel → TableModel → Type 0
AreKnown known face table = (memory number : ℕ) (defaults : Defaults) → kept_for known memory number ≡ Some defaults
    → HasGoodTextWhereValid (under face defaults) table memory number

-- the same, with nothing known of the row of a number
abbrev pub forgotten_in : KnownTexts → Option Writable → ℕ → KnownTexts
forgotten_in known None number = known
forgotten_in known (Some memory) number =
    record known { rows = set known.rows (first_entry memory + (number - 1)) None }

abbrev pub forgotten : KnownTexts → ℕ → ℕ → KnownTexts
forgotten known memory number = forgotten_in known (writable memory) number
