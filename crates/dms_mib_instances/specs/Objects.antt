-- The objects of a sign: which instances it has, by which names, and in which order they are walked (NTCIP 1203, dms).
use Rattle.std.specs.Prelude.{◌⊎◌, ◌≡◌, ℕ, Bool, true, false, List, [], ◌∷◌}
use Rattle.std.specs.Prelude.{map, length, nat_eq, Option, Some, None, slice_get}
use Rattle.std.specs.List.{find, flat_map, range_with_len}
use Rattle.std.specs.Cmp.Lexicographic.{pointwise}
use Rattle.dms_wire_ber.specs.NameOrder.{is_before}
use Rattle.dms_mib.specs.declared.column.Column.{Column}
use Rattle.dms_codes.specs.declared.row_id.RowId.{RowId}
use Rattle.dms_mib.specs.declared.objects.Instances.{Instances}
use Rattle.dms_mib.specs.declared.objects.Instances.TheVariants.{One, EachRow}
use Rattle.dms_mib.specs.Objects.{every_object}
use Rattle.dms_mib.specs.Names.{name_of}
use Rattle.dms_table.specs.Rows.{TableModel}
use Rattle.dms_codes.specs.declared.memory.Memory.{Memory}
use Rattle.dms_codes.specs.declared.memory.Memory.TheVariants.{Permanent, Changeable, Volatile, CurrentBuffer, Blank}
use Rattle.dms_codes.specs.Memory.{memory_number}
use Rattle.dms_mib.specs.declared.instance.Instance.{Instance}
use Rattle.dms_mib.specs.declared.instance.Instance.TheVariants as kinds

-- ---- the instances of a sign

-- 1 to n
abbrev pub numbers_to : ℕ → List ℕ
numbers_to n = range_with_len 1 n

-- the types of memory, in the order of their numbers
abbrev pub every_memory : List Memory
every_memory = Permanent ∷ Changeable ∷ Volatile ∷ CurrentBuffer ∷ Blank ∷ []

-- how many rows a type of memory has; what is shown is one, and blank messages have the numbers 1 to 255
abbrev pub count_in : TableModel → Memory → ℕ
count_in table Permanent = length table.permanent
count_in table Changeable = length table.changeable
count_in table Volatile = length table.volatile
count_in table CurrentBuffer = 1
count_in table Blank = 255

-- the rows of a type of memory, from number 1
abbrev pub rows_in : TableModel → Memory → List RowId
rows_in table memory =
    map (λ number. record { memory = memory_number memory; number = number }) (numbers_to (count_in table memory))

abbrev pub row_ids : TableModel → List RowId
row_ids table = flat_map (rows_in table) every_memory

-- a column's instances, one for each row
abbrev pub cells : TableModel → Column → List Instance
cells table column = map (kinds.Cell column) (row_ids table)

-- the instances of an object of the table
abbrev pub instances_of : TableModel → Instances → List Instance
instances_of table (One object) = kinds.Scalar object ∷ []
instances_of table (EachRow column) = cells table column

-- every instance, in the order of names
unfoldable pub instances : TableModel → List Instance
instances table = flat_map (instances_of table) every_object

-- ---- the walk

abbrev pub has_name : List ℕ → Instance → Bool
has_name name i = pointwise nat_eq (name_of i) name

-- the instance's name comes after this one
abbrev pub comes_after : List ℕ → Instance → Bool
comes_after name i = is_before name (name_of i)

abbrev pub instance_named : TableModel → List ℕ → Option Instance
instance_named table name = find (has_name name) (instances table)

-- the first instance that comes after a name (RFC 1157, 4.1.3)
abbrev pub next_instance : TableModel → List ℕ → Option Instance
next_instance table name = find (comes_after name) (instances table)

-- ---- what the walk promises

-- the sign has the instance
abbrev pub IsInstance : TableModel → Instance → Type 0
IsInstance table i = (k : ℕ) × (slice_get (instances table) k ≡ Some i)

-- the instance comes after this name, and any other that does comes after the instance
pub record IsFirstAfter (table : TableModel) (name : List ℕ) (i : Instance) : Type 0 where
  pub there : IsInstance table i
  pub after : comes_after name i ≡ true
  pub first : (j : Instance) → IsInstance table j → comes_after name j ≡ true
      → (i ≡ j) ⊎ (comes_after (name_of i) j ≡ true)

-- no instance comes after this name
abbrev pub IsLast : TableModel → List ℕ → Type 0
IsLast table name = (j : Instance) → IsInstance table j → comes_after name j ≡ false

-- what comes first after this name
abbrev pub FirstAfter : TableModel → List ℕ → Option Instance → Type 0
FirstAfter table name None = IsLast table name
FirstAfter table name (Some i) = IsFirstAfter table name i
