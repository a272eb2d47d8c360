-- What a sign in range reads is within the limits of a message: its values, and the names of its instances.
use Rattle.std.proofs.Common.{◌≡◌, ℕ, zero, suc, ◌+◌, ◌*◌, ◌-◌, ◌^◌, ◌<◌, ◌≤◌, ◌==◌, ◌&&◌, Bool, true, false, cond, List, [], ◌∷◌, ◌++◌, length, map, flat_map, Option, Some, None, slice_get, refl, ap, subst, arith, lt-ltb, length-append}
use Rattle.std.specs.Prelude.{nat_le, count_by, ⊤}
use Rattle.std.specs.Option.{IfSome}
use Rattle.std.specs.List.{AllByRecursion, range_with_len}
use Rattle.std.specs.Int.Digits.{AllBelowBase}
use Rattle.std.proofs.Math.Nat.{pow-suc}
use Rattle.std.proofs.lemmas.List.Sums.{count_by-le-length}
use Rattle.dms_wire_ber.specs.ObjectIdentifier.{IsNameInLimits}
use Rattle.dms_wire.specs.Limits.{IsValueInLimits}
use Rattle.dms_codes.specs.declared.codes.Order.{Order}
use Rattle.dms_codes.specs.declared.codes.MessageId.{MessageId}
use Rattle.dms_mib.specs.declared.column.Column.{Column}
use Rattle.dms_codes.specs.declared.row_id.RowId.{RowId}
use Rattle.dms_codes.specs.Checksum.{number, checksum, remainder, sixteen_zeros}
use Rattle.dms_codes.specs.Codes.{octets_of_id, in_order, IsMessageId}
use Rattle.dms_mib.specs.Names.{below_dms, object_name, cell_name, column_number}
use Rattle.dms_table.specs.Rows.{RowModel, TableModel, RowReading, reading, blank_reading, blank, blank_at, numbered, rows_by, rows_of, row_read, row_checksum}
use Rattle.dms_codes.specs.Limits.{longest_text}
use Rattle.dms_codes.specs.declared.memory.Memory.{Memory}
use Rattle.dms_codes.specs.Memory.{blank_memory, memory_number, memory_of}
use Rattle.dms_table.specs.Activation.{ShownModel, shown_row, shown_reading, message_at}
use Rattle.dms_codes.proofs.Division.{length-divided}
use Rattle.dms_mib.specs.declared.scalar.Scalar.{Scalar}
use Rattle.dms_mib.specs.declared.instance.Instance.{Instance}
use Rattle.dms_mib.specs.declared.instance.Instance.TheVariants as kinds
use Rattle.dms_mib.specs.Names.{scalar_number, name_of}
use Rattle.dms_mib.specs.declared.objects.Instances.{Instances}
use Rattle.dms_mib.specs.declared.objects.Instances.TheVariants.{One, EachRow}
use Rattle.dms_mib.specs.Objects.{every_object}
use Rattle.dms_mib_instances.specs.Objects.{numbers_to, every_memory, count_in, rows_in, row_ids, instances_of, instances, instance_named, next_instance, IsInstance}
use Rattle.dms_face.proofs.Lists.{if_either, if_found}
use Rattle.dms_sign.specs.State.{SignState}
use Rattle.dms_sign_access.specs.Cells.{number_value, cell_value}
use Rattle.dms_table.specs.Activation.{minutes_left}
use Rattle.dms_sign.specs.Values.{scalar_value, value_at, value_of, bound, binding_at, value_after}
use Rattle.dms_sign.specs.InRange.{IsRowInRange, IsTableInRange, IsTimeInRange, IsShownInRange, IsSignInRange, IsBindingInLimits}
use Rattle.dms_sign.proofs.InRangeLists.{either, if_mapped, if_then, all_mapped, all_flat, all_any, if_at}

-- ---- checksums

number_small : (bits : List Bool) → number bits < 2 ^ length bits
number_small [] = omega arith
number_small (true ∷ bits) = omega (arith, number_small bits, pow-suc 2 (length bits))
number_small (false ∷ bits) = omega (arith, number_small bits, pow-suc 2 (length bits))

length-map-bits : (f : Bool → Bool) (bits : List Bool) → length (map f bits) ≡ length bits
length-map-bits f [] = refl
length-map-bits f (bit ∷ bits) = ap suc (length-map-bits f bits)

-- what is left of bits with sixteen zeros after them
sixteen_left : (bits : List Bool) → length (remainder (bits ++ sixteen_zeros)) ≡ 16
sixteen_left bits = grind (arith, length-divided, length-append)

pub checksum_small : (octets : List ℕ) → checksum octets < 2 ^ 16
checksum_small octets = grind (arith, flat_map, length-map-bits, sixteen_left, number_small)

pub in_order_small : (order : Order) (n : ℕ) → n < 2 ^ 16 → in_order order n < 2 ^ 16
in_order_small order n small = grind arith

-- ---- codes

pub id_below : (order : Order) (id : MessageId) → IsMessageId id → AllBelowBase 256 (octets_of_id order id)
id_below order id is = grind arith

-- ---- objects with one instance

number_within : (n : ℕ) → n < 2 ^ 32 → IsValueInLimits (number_value n)
number_within n small = lt-ltb n (2 ^ 32) small

minutes_within : (o : Option ℕ) → IsTimeInRange o → IsValueInLimits (number_value (minutes_left o))
minutes_within o is = grind arith

-- a count of some rows
count_within : (rows : List RowModel) (test : RowModel → Bool) → length rows ≤ 64 → IsValueInLimits (number_value (count_by test rows))
count_within rows test few = number_within (count_by test rows) (omega (arith, count_by-le-length test rows))

length_within : (rows : List RowModel) → length rows ≤ 64 → IsValueInLimits (number_value (length rows))
length_within rows few = number_within (length rows) (omega arith)

free_within : (rows : List RowModel) (test : RowModel → Bool) → length rows ≤ 64 → IsValueInLimits (number_value (longest_text * count_by test rows))
free_within rows test few = number_within (longest_text * count_by test rows) (omega (arith, count_by-le-length test rows))

volatile_few : (s : SignState) → IsSignInRange s → length s.table.volatile ≤ 64
volatile_few s is = omega (arith, is.table.volatile_count)

pub scalar_within : (s : SignState) → IsSignInRange s → (object : Scalar) → IsValueInLimits (scalar_value s object)
unfolding scalar_value
scalar_within s is p = grind (arith, number_within, length_within, count_within, free_within, volatile_few, minutes_within, id_below)

-- ---- rows as they are read

-- a place in dmsMessageTable
pub record IsSmallId (id : RowId) : Type 0 where
  pub memory : id.memory < 2 ^ 8
  pub number : id.number < 2 ^ 16

pub record IsReadingInRange (read : RowReading) : Type 0 where
  pub row : IsRowInRange read.row
  pub checksum : read.checksum < 2 ^ 16

row_checksum_small : (row : RowModel) → row_checksum row < 2 ^ 16
row_checksum_small row = checksum_small (row.text ++ row.beacon ∷ row.pixel ∷ [])

reading_in_range : (row : RowModel) → IsRowInRange row → IsReadingInRange (reading row)
reading_in_range row is = grind (arith, either, row_checksum_small)

pub shown_in_range : (shown : ShownModel) → IsShownInRange shown → IsReadingInRange (shown_reading shown)
shown_in_range shown is =
    let small = row_checksum_small (shown_row shown) in
    record { row = is.row; checksum = either (λ n. n < 2 ^ 16) (shown.source.memory == blank_memory) 0 (row_checksum (shown_row shown)) (omega arith) small }

blank_if : (n : ℕ) (b : Bool) → (nat_le 1 n && nat_le n 255) ≡ b → IfSome (cond b (Some (blank n)) None) IsRowInRange
blank_if n b e = grind arith

blank_in_range : (n : ℕ) → IfSome (blank_at n) IsRowInRange
blank_in_range n = blank_if n (nat_le 1 n && nat_le n 255) refl

numbered_in_range : (rows : List RowModel) (n : ℕ) → AllByRecursion IsRowInRange rows → IfSome (numbered rows n) IsRowInRange
numbered_in_range rows n all = if_either IsRowInRange (n == 0) None (slice_get rows (n - 1)) tt (if_at IsRowInRange rows (n - 1) all)

rows_by_in_range : (table : TableModel) (memory : Option Memory) → IsTableInRange table → AllByRecursion IsRowInRange (rows_by table memory)
rows_by_in_range table memory is = grind arith

pub rows_in_range : (table : TableModel) (memory : ℕ) → IsTableInRange table → AllByRecursion IsRowInRange (rows_of table memory)
rows_in_range table memory is = rows_by_in_range table (memory_of memory) is

row_read_in_range : (table : TableModel) (id : RowId) → IsTableInRange table → IfSome (row_read table id) IsReadingInRange
row_read_in_range table id is =
    if_either IsReadingInRange (id.memory == blank_memory) _ _
    (if_mapped IsRowInRange IsReadingInRange blank_reading (blank_at id.number) (λ row r. record { row = r; checksum = omega arith }) (blank_in_range id.number))
    (if_mapped IsRowInRange IsReadingInRange reading (numbered (rows_of table id.memory) id.number) reading_in_range
    (numbered_in_range (rows_of table id.memory) id.number (rows_in_range table id.memory is)))

pub message_in_range : (table : TableModel) (shown : ShownModel) (id : RowId) → IsTableInRange table → IsShownInRange shown
    → IfSome (message_at table shown id) IsReadingInRange
message_in_range table shown id is is_shown = grind (arith, if_either, shown_in_range, row_read_in_range)

cell_within : (order : Order) (column : Column) (id : RowId) (read : RowReading) → IsSmallId id → IsReadingInRange read
    → IsValueInLimits (cell_value order column id read)
cell_within order column id read small is = grind arith

-- ---- instances

abbrev pub IsSmallInstance : Instance → Type 0
IsSmallInstance (kinds.Scalar object) = ⊤
IsSmallInstance (kinds.Cell column id) = IsSmallId id

pub value_within : (s : SignState) → IsSignInRange s → (i : Instance) → IsSmallInstance i → IfSome (value_at s i) IsValueInLimits
unfolding value_at
value_within s is p small = grind (arith, scalar_within, if_mapped, cell_within, message_in_range)

numbers_small : (from count most : ℕ) → from + count ≤ most → AllByRecursion (λ n. n < most) (range_with_len from count)
numbers_small from zero most few = tt
numbers_small from (suc count) most few = (omega arith, numbers_small (from + 1) count most (omega arith))

memory_small : (memory : Memory) → memory_number memory < 2 ^ 8
memory_small memory = grind arith

count_small : (table : TableModel) → IsTableInRange table → (memory : Memory) → count_in table memory ≤ 255
count_small table is memory = grind arith

rows_small : (table : TableModel) → IsTableInRange table → (memory : Memory) → AllByRecursion IsSmallId (rows_in table memory)
rows_small table is memory =
    let few = count_small table is memory in
    all_mapped (λ n. n < 2 ^ 16) IsSmallId (λ number. record { memory = memory_number memory; number = number }) (numbers_to (count_in table memory))
    (λ n h. record { memory = memory_small memory; number = h }) (numbers_small 1 (count_in table memory) (2 ^ 16) (omega arith))

ids_small : (table : TableModel) → IsTableInRange table → AllByRecursion IsSmallId (row_ids table)
ids_small table is =
    all_flat (λ (memory : Memory). ⊤) IsSmallId (rows_in table) every_memory (λ memory h. rows_small table is memory)
    (all_any (λ (memory : Memory). ⊤) every_memory (λ memory. tt))

object_instances_small : (table : TableModel) → IsTableInRange table → (which : Instances)
    → AllByRecursion IsSmallInstance (instances_of table which)
object_instances_small table is (One object) = (tt, tt)
object_instances_small table is (EachRow column) =
    all_mapped IsSmallId IsSmallInstance (kinds.Cell column) (row_ids table) (λ id h. h) (ids_small table is)

pub instances_small : (table : TableModel) → IsTableInRange table → AllByRecursion IsSmallInstance (instances table)
unfolding instances
instances_small table is =
    all_flat (λ (which : Instances). ⊤) IsSmallInstance (instances_of table) every_object (λ which h. object_instances_small table is which)
    (all_any (λ (which : Instances). ⊤) every_object (λ which. tt))

-- ---- names

object_small : (object : Scalar) → ((scalar_number object).0 < 256) × ((scalar_number object).1 < 256)
object_small object = (grind arith, grind arith)

column_small : (column : Column) → column_number column < 256
column_small column = grind arith

abbrev IsPart : ℕ → Type 0
IsPart n = n < 2 ^ 32

below_dms_within : (numbers : List ℕ) → AllByRecursion IsPart numbers → length numbers ≤ 118 → IsNameInLimits (below_dms numbers)
below_dms_within numbers small few = grind arith

object_name_within : (group place : ℕ) → group < 256 → place < 256 → IsNameInLimits (object_name group place)
object_name_within group place small less = below_dms_within (group ∷ place ∷ 0 ∷ []) (omega arith, (omega arith, (omega arith, tt))) (omega arith)

cell_name_within : (column : Column) (id : RowId) → IsSmallId id → IsNameInLimits (cell_name column id)
cell_name_within column id small = grind arith

pub name_within : (i : Instance) → IsSmallInstance i → IsNameInLimits (name_of i)
unfolding name_of
name_within (kinds.Scalar object) small = object_name_within (scalar_number object).0 (scalar_number object).1 (object_small object).0 (object_small object).1
name_within (kinds.Cell column id) small = cell_name_within column id small

-- what an instance of a sign is called and reads
pub instance_within : (s : SignState) (i : Instance) → IsSignInRange s → IsInstance s.table i → IsNameInLimits (name_of i) × IfSome (value_at s i) IsValueInLimits
instance_within s i is there =
    let small : IsSmallInstance i =
    subst (λ o. IfSome o IsSmallInstance) there.1 (if_at IsSmallInstance (instances s.table) there.0 (instances_small s.table is.table)) in
    (name_within i small, value_within s is i small)

-- ---- what is found by a name

pub value_of_within : (s : SignState) (name : List ℕ) → IsSignInRange s → IfSome (value_of s name) IsValueInLimits
unfolding value_of
value_of_within s name is =
    if_then IsSmallInstance IsValueInLimits (value_at s) (instance_named s.table name) (value_within s is)
    (if_found IsSmallInstance _ (instances s.table) (instances_small s.table is.table))

pub value_after_within : (s : SignState) (name : List ℕ) → IsSignInRange s → IfSome (value_after s name) IsBindingInLimits
unfolding value_after
value_after_within s name is =
    if_then IsSmallInstance IsBindingInLimits (binding_at s) (next_instance s.table name)
    (λ i small. if_mapped IsValueInLimits IsBindingInLimits (bound i) (value_at s i) (λ v h. record { name = name_within i small; value = h })
    (value_within s is i small))
    (if_found IsSmallInstance _ (instances s.table) (instances_small s.table is.table))
