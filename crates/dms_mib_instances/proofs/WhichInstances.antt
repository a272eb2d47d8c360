-- Which instances there are: each object, and each column of each row that can be read.
use Rattle.std.proofs.Common.{◌≡◌, ◌↔◌, ℕ, zero, suc, ◌-◌, ◌<◌, ◌≤◌, length, Option, Some, None, IsSome, refl, sym, ap, subst, ◌∙◌, arith}
use Rattle.std.proofs.lemmas.Bool.Decides.{nat_tests}
use Rattle.std.proofs.lemmas.Option.{slice_get_cases}
use Rattle.dms_mib.specs.declared.column.Column.{Column}
use Rattle.dms_codes.specs.declared.memory.Memory.{Memory}
use Rattle.dms_codes.specs.declared.memory.Memory.TheVariants.{Permanent, Changeable, Volatile, CurrentBuffer, Blank}
use Rattle.dms_codes.specs.declared.row_id.RowId.{RowId}
use Rattle.dms_codes.specs.Memory.{memory_number, memory_of}
use Rattle.dms_table.specs.Rows.{TableModel}
use Rattle.dms_table.specs.Activation.{ShownModel, message_at}
use Rattle.dms_mib.specs.declared.scalar.Scalar.{Scalar}
use Rattle.dms_mib.specs.declared.instance.Instance.TheVariants as kinds
use Rattle.dms_mib.specs.declared.objects.Instances.{Instances}
use Rattle.dms_mib.specs.declared.objects.Instances.TheVariants.{One, EachRow}
use Rattle.dms_mib.specs.Objects.{every_object, objects}
use Rattle.dms_mib.proofs.Table.{each}
use Rattle.dms_mib_instances.specs.Objects.{numbers_to, every_memory, count_in, rows_in, row_ids, instances_of, instances, IsInstance}
use Rattle.dms_mib_instances.specs.declared.counts.Counts.{Counts}
use Rattle.dms_mib_instances.specs.Places.{HasCounts, AreOctets, last_number, IsRow}
use Rattle.dms_mib_instances.proofs.Members.{In, in_map, of_map, in_flat, of_flat, in_range, of_range}

-- ---- types of memory

number_is : (number : ℕ) (memory : Memory) → memory_of number ≡ Some memory → memory_number memory ≡ number
number_is number memory e = grind (arith, nat_tests)

memory_back : (memory : Memory) → memory_of (memory_number memory) ≡ Some memory
memory_back memory = grind arith

memory_listed : (memory : Memory) → In every_memory memory
memory_listed Permanent = (0, refl)
memory_listed Changeable = (1, refl)
memory_listed Volatile = (2, refl)
memory_listed CurrentBuffer = (3, refl)
memory_listed Blank = (4, refl)

count_is : (table : TableModel) (n : Counts) → HasCounts table n → (memory : Memory) → count_in table memory ≡ last_number n memory
count_is table n has memory = grind arith

-- ---- rows

row_there : (table : TableModel) (n : Counts) → HasCounts table n → (row : RowId) → IsRow n row → In (row_ids table) row
row_there table n has row is =
    let as_row : ℕ → RowId = λ number. record { memory = memory_number is.memory; number = number } in
    let count = count_is table n has is.memory in
    let number = in_range 1 (count_in table is.memory) (row.number - 1) row.number (omega (arith, is.from_1)) (omega (arith, is.from_1, is.to, count)) in
    let here = in_map as_row (numbers_to (count_in table is.memory)) number.0 row.number number.1 in
    let listed = memory_listed is.memory in
    in_flat (rows_in table) every_memory listed.0 is.memory row listed.1
    (subst (λ m. In (rows_in table is.memory) (record { memory = m; number = row.number })) (number_is row.memory is.memory is.of_memory) here)

there_row : (table : TableModel) (n : Counts) → HasCounts table n → (row : RowId) → In (row_ids table) row → IsRow n row
there_row table n has row there =
    let of = of_flat (rows_in table) every_memory there.0 row there.1 in
    let as_row : ℕ → RowId = λ number. record { memory = memory_number of.0; number = number } in
    let from = of_map as_row (numbers_to (count_in table of.0)) of.2.0 row of.2.1 in
    let bounds = of_range 1 (count_in table of.0) from.2.0 from.0 from.2.1 in
    let number : from.0 ≡ row.number = ap (λ (r : RowId). r.number) from.1 in
    record {
      memory = of.0;
      of_memory = ap (λ (r : RowId). memory_of r.memory) (sym from.1) ∙ memory_back of.0;
      from_1 = omega (arith, bounds.0, number);
      to = omega (arith, bounds.1, number, count_is table n has of.0);
    }

-- ---- rows that can be read

-- how many rows of each type of memory a table has
abbrev counts_of : TableModel → Counts
counts_of table = record {
  permanent = length table.permanent;
  changeable = length table.changeable;
  volatile = length table.volatile;
}

counts_are : (table : TableModel) → HasCounts table (counts_of table)
counts_are table = record { permanent = refl; changeable = refl; volatile = refl }

row_read : (table : TableModel) (shown : ShownModel) (memory : Memory) (number : ℕ) → 1 ≤ number → number ≤ count_in table memory
    → IsSome (message_at table shown (record { memory = memory_number memory; number = number }))
row_read table shown memory number from to = grind (arith, nat_tests, slice_get_cases)

read_row : (table : TableModel) (shown : ShownModel) (memory : Memory) (number : ℕ)
    → IsSome (message_at table shown (record { memory = memory_number memory; number = number })) → (1 ≤ number) × (number ≤ count_in table memory)
read_row table shown memory number read = (grind (arith, nat_tests, slice_get_cases), grind (arith, nat_tests, slice_get_cases))

none_read : (table : TableModel) (shown : ShownModel) (row : RowId) → memory_of row.memory ≡ None → IsSome (message_at table shown row) → ⊥
none_read table shown row none read = grind (arith, nat_tests)

-- ---- instances

-- each object is in the table
listed_there : (which : Instances) → In every_object which
unfolding objects
listed_there which = each which

pub object_there : (table : TableModel) (object : Scalar) → IsInstance table (kinds.Scalar object)
unfolding instances
object_there table object =
    let at = listed_there (One object) in
    in_flat (instances_of table) every_object at.0 (One object) (kinds.Scalar object) at.1 (0, refl)

cell_there : (table : TableModel) (column : Column) (row : RowId) → In (row_ids table) row → IsInstance table (kinds.Cell column row)
unfolding instances
cell_there table column row i =
    let at = listed_there (EachRow column) in
    let in_column = in_map (kinds.Cell column) (row_ids table) i.0 row i.1 in
    in_flat (instances_of table) every_object at.0 (EachRow column) (kinds.Cell column row) at.1 in_column

of_object : (table : TableModel) (which : Instances) (column : Column) (row : RowId) → In (instances_of table which) (kinds.Cell column row)
    → In (row_ids table) row
of_object table (One object) column row (zero, e) = absurd (cc)
of_object table (One object) column row (suc k, e) = absurd (cc)
of_object table (EachRow other) column row i =
    let r = of_map (kinds.Cell other) (row_ids table) i.0 (kinds.Cell column row) i.1 in
    let is : r.0 ≡ row = cc in
    subst (In (row_ids table)) is r.2

of_cell : (table : TableModel) (column : Column) (row : RowId) → IsInstance table (kinds.Cell column row) → In (row_ids table) row
unfolding instances
of_cell table column row there =
    let o = of_flat (instances_of table) every_object there.0 (kinds.Cell column row) there.1 in
    of_object table o.0 column row o.2

-- a row has an instance in each column, and no other has one
pub counted_there : (table : TableModel) (n : Counts) (column : Column) (row : RowId) → HasCounts table n → IsRow n row
    → IsInstance table (kinds.Cell column row)
counted_there table n column row has is = cell_there table column row (row_there table n has row is)

pub there_counted : (table : TableModel) (n : Counts) (column : Column) (row : RowId) → HasCounts table n → IsInstance table (kinds.Cell column row)
    → IsRow n row
there_counted table n column row has there = there_row table n has row (of_cell table column row there)

pub cell_read : (table : TableModel) (shown : ShownModel) (column : Column) (row : RowId)
    → IsInstance table (kinds.Cell column row) ↔ IsSome (message_at table shown row)
cell_read table shown column row = (there_read, read_there (memory_of row.memory) refl)
  where
    there_read : IsInstance table (kinds.Cell column row) → IsSome (message_at table shown row)
    there_read there =
        let is = there_counted table (counts_of table) column row (counts_are table) there in
        subst (λ m. IsSome (message_at table shown (record { memory = m; number = row.number }))) (number_is row.memory is.memory is.of_memory)
        (row_read table shown is.memory row.number is.from_1 (omega (arith, is.to, count_is table (counts_of table) (counts_are table) is.memory)))

    read_there : (memory : Option Memory) → memory_of row.memory ≡ memory → IsSome (message_at table shown row)
        → IsInstance table (kinds.Cell column row)
    read_there None none read = absurd (none_read table shown row none read)
    read_there (Some memory) is read =
        let number = number_is row.memory memory is in
        let bounds = read_row table shown memory row.number
        (subst (λ m. IsSome (message_at table shown (record { memory = m; number = row.number }))) (sym number) read) in
        counted_there table (counts_of table) column row (counts_are table)
        (record { memory = memory; of_memory = is; from_1 = bounds.0; to = omega (arith, bounds.1, count_is table (counts_of table) (counts_are table) memory) })

-- ---- their types of memory and numbers

pub memory_within : (n : Counts) (row : RowId) → IsRow n row → (2 ≤ row.memory) × (row.memory ≤ 7)
memory_within n row is =
    let number = number_is row.memory is.memory is.of_memory in
    (grind arith, grind arith)

last_few : (n : Counts) → AreOctets n → (memory : Memory) → last_number n memory < 256
last_few n few memory = grind arith

pub number_few : (n : Counts) → AreOctets n → (row : RowId) → IsRow n row → row.number < 256
number_few n few row is = omega (arith, is.to, last_few n few is.memory)
