-- Which instance it is whose name has these octets (X.690, 8.19; this profile).
use Rattle.std.specs.Prelude.{◌≡◌, ◌<◌, ◌+◌, ◌==◌, ◌&&◌, ℕ, List, []}
use Rattle.std.specs.Prelude.{◌∷◌, Option, Some, nat_lt, get_or, if◌then◌else◌}
use Rattle.std.specs.List.{find, flat_map}
use Rattle.dms_wire_ber.specs.ObjectIdentifier.{sub_identifier_octets, under_dms}
use Rattle.dms_mib.specs.Names.{column_number, scalar_number}
use Rattle.dms_mib.specs.declared.column.Column.{Column}
use Rattle.dms_mib.specs.declared.scalar.Scalar.{Scalar}
use Rattle.dms_mib.specs.declared.instance.Instance.{Instance}
use Rattle.dms_mib.specs.declared.instance.Instance.TheVariants as kinds
use Rattle.dms_mib.specs.declared.objects.Instances.{Instances}
use Rattle.dms_mib.specs.declared.objects.Instances.TheVariants.{One, EachRow}
use Rattle.dms_mib.specs.Objects.{every_object}

abbrev pub columns_in : Instances → List Column
columns_in (One object) = []
columns_in (EachRow column) = column ∷ []

abbrev pub scalars_in : Instances → List Scalar
scalars_in (One object) = object ∷ []
scalars_in (EachRow column) = []

-- the columns, and the objects that have one instance, each in the order of names
abbrev pub columns : List Column
columns = flat_map columns_in every_object

abbrev pub scalars : List Scalar
scalars = flat_map scalars_in every_object

-- the column of this number
abbrev pub column_at : ℕ → Option Column
column_at number = find (λ column. column_number column == number) columns

-- the object of this number in this group
abbrev pub scalar_at : (group number : ℕ) → Option Scalar
scalar_at group number =
    find (λ object. ((scalar_number object).0 == group) && ((scalar_number object).1 == number)) scalars

-- the octets of the numbers of a name after its first two (X.690, 8.19)
abbrev pub octets_below : List ℕ → List ℕ
octets_below numbers = flat_map sub_identifier_octets numbers

-- the number of a row that these numbers begin with: 0 where there is none, and 255, the last that a row has, where it
-- is above
abbrev pub row_number_of : List ℕ → ℕ
row_number_of numbers = if nat_lt (get_or numbers 0 0) 256 then get_or numbers 0 0 else 255

-- the content octets of the name of an object's instance
abbrev pub object_content : Scalar → List ℕ
object_content object = under_dms ((scalar_number object).0 ∷ (scalar_number object).1 ∷ 0 ∷ [])

-- those of a cell's name, whose row's type of memory and number have one octet each
abbrev pub cell_content : Column → (memory number : ℕ) → List ℕ
cell_content column memory number = under_dms (5 ∷ 8 ∷ 1 ∷ column_number column ∷ memory ∷ number ∷ [])

-- those where the row's number, 128 and these, has two octets
abbrev pub long_cell_content : Column → (memory low : ℕ) → List ℕ
long_cell_content column memory low = under_dms (5 ∷ 8 ∷ 1 ∷ column_number column ∷ memory ∷ 129 ∷ low ∷ [])

-- whichever object, or cell of a row of a type of memory below 128 and a number below 256, has these octets as its
-- name is the one that is found
pub record IsFoundBy (octets : List ℕ) (found : Option Instance) : Type 0 where
  pub object : (object : Scalar) → octets ≡ object_content object → found ≡ Some (kinds.Scalar object)
  pub short : (column : Column) (memory number : ℕ) → memory < 128
      → number < 128 → octets ≡ cell_content column memory number
      → found ≡ Some (kinds.Cell column (record { memory = memory; number = number }))
  pub long : (column : Column) (memory low : ℕ) → memory < 128
      → low < 128 → octets ≡ long_cell_content column memory low
      → found ≡ Some (kinds.Cell column (record { memory = memory; number = 128 + low }))
