-- The message table: its rows, and what asking, writing and a loss of power make of them (NTCIP 1203, dmsMessageTable).
use Rattle.std.specs.Prelude.{ℕ, ◌+◌, ◌-◌, ◌≤◌, ◌==◌, ◌&&◌, ◌||◌, Bool, not, if◌then◌else◌, nat_le}
use Rattle.std.specs.Prelude.{List, [], length, map, count_by, slice_get, slice_set}
use Rattle.std.specs.Prelude.{Option, Some, None, option_map, option_and_then}
use Rattle.std.specs.List.{list_any}
use Rattle.dms_codes.specs.declared.status.Status.{Status}
use Rattle.dms_codes.specs.declared.status.Status.TheVariants.{NotUsed, Modifying, Valid}
use Rattle.dms_codes.specs.declared.status.Ask.{Ask}
use Rattle.dms_codes.specs.declared.codes.Order.{Order}
use Rattle.dms_codes.specs.declared.row_id.RowId.{RowId}
use Rattle.dms_table.specs.declared.row.Services.{Services}
use Rattle.dms_codes.specs.Checksum.{message_checksum}
use Rattle.dms_codes.specs.declared.memory.Memory.{Memory}
use Rattle.dms_codes.specs.declared.memory.Memory.TheVariants.{Permanent, Changeable, Volatile}
use Rattle.dms_codes.specs.Memory.{memory_of, blank_memory}
use Rattle.dms_codes.specs.Limits.{longest_text, longest_owner}
use Rattle.dms_codes.specs.Status.{next_status, is_not_used, is_modifying, is_validating, is_valid, is_validate}

-- ---- rows

-- a row of dmsMessageTable
pub record RowModel : Type 0 where
  pub text : List ℕ
  pub owner : List ℕ
  pub beacon : ℕ
  pub pixel : ℕ
  pub priority : ℕ
  pub status : Status

-- the rows of each type of memory, that of number 1 first; what the sign has; and the order of a checksum's octets in
-- its codes
pub record TableModel : Type 0 where
  pub permanent : List RowModel
  pub changeable : List RowModel
  pub volatile : List RowModel
  pub services : Services
  pub order : Order

-- a row that is not used is empty
abbrev pub unused : RowModel
unused = record { text = []; owner = []; beacon = 0; pixel = 0; priority = 1; status = NotUsed }

-- The blank message of a number: it shows nothing.
abbrev pub blank : ℕ → RowModel
blank number = record { text = []; owner = []; beacon = 0; pixel = 0; priority = number; status = Valid }

-- the rows of a type of memory; what is shown and blank messages are no rows of the table
abbrev pub rows_by : TableModel → Option Memory → List RowModel
rows_by table (Some Permanent) = table.permanent
rows_by table (Some Changeable) = table.changeable
rows_by table (Some Volatile) = table.volatile
rows_by table memory = []

-- the rows of the type of memory of a number
abbrev pub rows_of : TableModel → ℕ → List RowModel
rows_of table memory = rows_by table (memory_of memory)

-- the row of a number, from 1
abbrev pub numbered : List RowModel → ℕ → Option RowModel
numbered rows number = if number == 0 then None else slice_get rows (number - 1)

-- blank messages have the numbers 1 to 255
abbrev pub blank_at : ℕ → Option RowModel
blank_at number = if nat_le 1 number && nat_le number 255 then Some (blank number) else None

-- the row of a name; blank messages are rows too
abbrev pub row_at : TableModel → RowId → Option RowModel
row_at table id = if id.memory == blank_memory then blank_at id.number else numbered (rows_of table id.memory) id.number

-- ---- what is read of a row

-- a row with its checksum as it is read
pub record RowReading : Type 0 where
  pub row : RowModel
  pub checksum : ℕ

-- the checksum of a row's text, beacon and pixel service
abbrev pub row_checksum : RowModel → ℕ
row_checksum row = message_checksum row.text row.beacon row.pixel

-- The checksum of a row that is not valid reads 0, and that of a blank message too.
abbrev pub reading : RowModel → RowReading
reading row = record { row = row; checksum = if is_valid row.status then row_checksum row else 0 }

-- a blank message as it is read
abbrev pub blank_reading : RowModel → RowReading
blank_reading row = record { row = row; checksum = 0 }

-- what is read of the row of a name, where it is there
abbrev pub row_read : TableModel → RowId → Option RowReading
row_read table id =
    if id.memory == blank_memory then option_map blank_reading (blank_at id.number)
    else option_map reading (numbered (rows_of table id.memory) id.number)

-- how many rows of a type of memory are valid, and how many not used
abbrev pub valid_count : TableModel → ℕ → ℕ
valid_count table memory = count_by (λ (row : RowModel). is_valid row.status) (rows_of table memory)

abbrev pub unused_count : TableModel → ℕ → ℕ
unused_count table memory = count_by (λ (row : RowModel). is_not_used row.status) (rows_of table memory)

-- how many rows a type of memory has
abbrev pub row_count : TableModel → ℕ → ℕ
row_count table memory = length (rows_of table memory)

-- ---- changing a row

-- the rows with the one of a number changed; None where it is not there, or does not take the change
abbrev pub changed_in : List RowModel → ℕ → (RowModel → Option RowModel) → Option (List RowModel)
changed_in rows number change =
    option_and_then (λ row. option_map (slice_set rows (number - 1)) (change row)) (numbered rows number)

abbrev pub with_changeable : TableModel → List RowModel → TableModel
with_changeable table rows = record table { changeable = rows }

abbrev pub with_volatile : TableModel → List RowModel → TableModel
with_volatile table rows = record table { volatile = rows }

-- the table with a row of a type of memory changed: changeable and volatile rows can be, and None is a refusal
abbrev pub changed_by : TableModel → Option Memory → ℕ → (RowModel → Option RowModel) → Option TableModel
changed_by table (Some Changeable) number change =
    option_map (with_changeable table) (changed_in table.changeable number change)
changed_by table (Some Volatile) number change =
    option_map (with_volatile table) (changed_in table.volatile number change)
changed_by table memory number change = None

-- the table with the row of a name changed
abbrev pub changed : TableModel → RowId → (RowModel → Option RowModel) → Option TableModel
changed table id change = changed_by table (memory_of id.memory) id.number change

-- ---- asking

-- the row in another status; a row that becomes not used is emptied
abbrev pub with_status : RowModel → Status → RowModel
with_status row NotUsed = unused
with_status row status = record row { status = status }

-- a row that was asked, where the table of statuses has the step
abbrev pub asked_row : Ask → RowModel → Option RowModel
asked_row ask row = option_map (with_status row) (next_status row.status ask)

-- a row is being validated
abbrev pub row_is_validating : RowModel → Bool
row_is_validating row = is_validating row.status

-- one of the rows is being validated
abbrev pub is_settling : TableModel → Bool
is_settling table = list_any row_is_validating table.changeable || list_any row_is_validating table.volatile

-- One row is validated at a time.
abbrev pub may_ask : TableModel → Ask → Bool
may_ask table ask = not (is_validate ask && is_settling table)

-- the table after a row was asked
abbrev pub asked : TableModel → RowId → Ask → Option TableModel
asked table id ask = if may_ask table ask then changed table id (asked_row ask) else None

-- ---- writing

-- a value of a field
pub data FieldModel : Type 0 where
  Text : List ℕ → FieldModel
  Owner : List ℕ → FieldModel
  Beacon : ℕ → FieldModel
  Pixel : ℕ → FieldModel
  Priority : ℕ → FieldModel

-- the range of each field
abbrev pub is_in_range : FieldModel → Bool
is_in_range (Text octets) = nat_le (length octets) longest_text
is_in_range (Owner octets) = nat_le (length octets) longest_owner
is_in_range (Beacon on) = nat_le on 1
is_in_range (Pixel on) = nat_le on 1
is_in_range (Priority priority) = nat_le 1 priority && nat_le priority 255

-- the row with a field of this value
abbrev pub with_field : RowModel → FieldModel → RowModel
with_field row (Text octets) = record row { text = octets }
with_field row (Owner octets) = record row { owner = octets }
with_field row (Beacon on) = record row { beacon = on }
with_field row (Pixel on) = record row { pixel = on }
with_field row (Priority priority) = record row { priority = priority }

-- A row is written while it is being modified.
abbrev pub written_row : FieldModel → RowModel → Option RowModel
written_row field row = if is_modifying row.status && is_in_range field then Some (with_field row field) else None

-- the table after a field of a row was written
abbrev pub written : TableModel → RowId → FieldModel → Option TableModel
written table id field = changed table id (written_row field)

-- ---- a loss of power

-- a validation has to be asked for again
abbrev pub interrupted : RowModel → RowModel
interrupted row = if row_is_validating row then record row { status = Modifying } else row

-- a volatile row after a loss of power
abbrev pub released : RowModel → RowModel
released row = unused

-- volatile rows are gone
abbrev pub after_power : TableModel → TableModel
after_power table = record table {
  changeable = map interrupted table.changeable;
  volatile = map released table.volatile;
}

-- ---- every table

-- how many rows are being validated
abbrev pub validating_count : TableModel → ℕ
validating_count table = count_by row_is_validating table.changeable + count_by row_is_validating table.volatile

-- at most one row is being validated
pub record IsTable (table : TableModel) : Type 0 where
  pub one : validating_count table ≤ 1
