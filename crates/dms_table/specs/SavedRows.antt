-- Rows of a saved state, and why one is not put in a place (this profile).
use Rattle.std.specs.Prelude.{◌≡◌, ℕ, ◌==◌, ◌&&◌, ◌||◌, Bool, true, not, if◌then◌else◌, List, []}
use Rattle.std.specs.Prelude.{Option, Some, None, All}
use Rattle.std.specs.Option.{option_or}
use Rattle.dms_codes.specs.declared.row_id.RowId.{RowId}
use Rattle.dms_codes.specs.declared.status.Status.{Status}
use Rattle.dms_codes.specs.declared.memory.Memory.{Memory}
use Rattle.dms_codes.specs.declared.memory.Memory.TheVariants.{Changeable, Volatile}
use Rattle.dms_codes.specs.Memory.{memory_of}
use Rattle.dms_codes.specs.Status.{is_not_used, is_validating, is_valid}
use Rattle.dms_table.specs.declared.row.Services.{Services}
use Rattle.dms_table.specs.declared.saved_row.SavedRow.{SavedRow}
use Rattle.dms_table.specs.declared.saved_row.RowFault.{RowFault}
use Rattle.dms_table.specs.declared.saved_row.RowFault.TheVariants as faults
use Rattle.dms_table.specs.Rows.{RowModel, TableModel, Text, Owner, Beacon, Pixel, Priority, is_in_range}
use Rattle.dms_table.specs.Rows.{is_settling, numbered, unused}

-- the row that is saved
abbrev pub row_saved : SavedRow → RowModel
row_saved row = record {
  text = row.text.now;
  owner = row.owner.now;
  beacon = row.beacon;
  pixel = row.pixel;
  priority = row.priority;
  status = row.status;
}

-- ---- what is wrong with a row

-- a valid row is served only by what the sign has
abbrev pub is_served : Status → Bool → ℕ → Bool
is_served status has on = has || not (is_valid status && on == 1)

abbrev pub may_have_beacon : Services → RowModel → Bool
may_have_beacon services row = is_in_range (Beacon row.beacon) && is_served row.status services.beacon row.beacon

abbrev pub may_have_pixel : Services → RowModel → Bool
may_have_pixel services row = is_in_range (Pixel row.pixel) && is_served row.status services.pixel row.pixel

-- the first thing that is wrong with a row on a sign that has this
abbrev pub value_fault : Services → RowModel → Option RowFault
value_fault services row =
    if is_not_used row.status then Some faults.NotUsed
    else if not (is_in_range (Text row.text)) then Some faults.Text
    else if not (is_in_range (Owner row.owner)) then Some faults.Owner
    else if not (may_have_beacon services row) then Some faults.Beacon
    else if not (may_have_pixel services row) then Some faults.Pixel
    else if not (is_in_range (Priority row.priority)) then Some faults.Priority
    else None

-- ---- what is wrong with its place

-- the rows of a type of memory that can be changed
abbrev pub writable_rows_by : TableModel → Option Memory → List RowModel
writable_rows_by table (Some Changeable) = table.changeable
writable_rows_by table (Some Volatile) = table.volatile
writable_rows_by table memory = []

-- the row that stands where another is to be put
abbrev pub row_there : TableModel → RowId → Option RowModel
row_there table id = numbered (writable_rows_by table (memory_of id.memory)) id.number

-- A row is put where one is that is not used.
abbrev pub place_fault : Option RowModel → Option RowFault
place_fault None = Some faults.Place
place_fault (Some row) = if is_not_used row.status then None else Some faults.Used

-- One row is validated at a time.
abbrev pub may_put : TableModel → Status → Bool
may_put table status = not (is_validating status && is_settling table)

abbrev pub room_fault : TableModel → RowId → RowModel → Option RowFault
room_fault table id row =
    if may_put table row.status then place_fault (row_there table id) else Some faults.Validating

-- the first thing for which a row is not put in a place
abbrev pub row_fault : TableModel → RowId → RowModel → Option RowFault
row_fault table id row = option_or (value_fault table.services row) (room_fault table id row)

-- ---- putting a row

-- a row that is not used becomes this one
abbrev pub put_over : RowModel → RowModel → Option RowModel
put_over new row = if is_not_used row.status then Some new else None

-- ---- every table

-- a row that is not used is empty
abbrev pub IsEmptyWhereUnused : RowModel → Type 0
IsEmptyWhereUnused row = is_not_used row.status ≡ true → row ≡ unused

-- so is each of these
abbrev pub AreEmptyWhereUnused : List RowModel → Type 0
AreEmptyWhereUnused rows = All IsEmptyWhereUnused rows
