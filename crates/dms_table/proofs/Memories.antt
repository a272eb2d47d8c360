-- The rows of a table by their types of memory.
use Rattle.std.proofs.Common.{◌≡◌, ℕ, ◌==◌, Bool, true, false, cond, [], Option, Some, None, ap, arith}
use Rattle.std.proofs.lemmas.Bool.{eqb-true}
use Rattle.dms_codes.specs.declared.row_id.RowId.{RowId}
use Rattle.dms_codes.specs.declared.status.Ask.{Ask}
use Rattle.dms_codes.specs.declared.memory.Memory.{Memory}
use Rattle.dms_codes.specs.Memory.{memory_of, blank_memory}
use Rattle.dms_table.specs.declared.writable.Writable.{Writable}
use Rattle.dms_table.specs.Rows.{RowModel, TableModel, rows_by, rows_of, changed_by, changed, asked_row}
use Rattle.dms_table.specs.Stock.{KeepsPermanentRows}
use Rattle.dms_table.specs.PlaceView.{writable_by, writable, of_type}

-- ---- those that can be changed

by_type : (table : TableModel) (memory : Option Memory) (kind : Writable) → writable_by memory ≡ Some kind
    → rows_by table memory ≡ of_type kind table.changeable table.volatile
by_type table memory kind is = grind arith

pub rows_of_type : (table : TableModel) (memory : ℕ) (kind : Writable) → writable memory ≡ Some kind
    → rows_of table memory ≡ of_type kind table.changeable table.volatile
rows_of_type table memory kind is = by_type table (memory_of memory) kind is

others_by : (old new : TableModel) (memory : Option Memory) → writable_by memory ≡ None → old.permanent ≡ new.permanent
    → rows_by old memory ≡ rows_by new memory
others_by old new memory is same = grind arith

-- those that can't be are the permanent ones, or none
pub other_rows : (old new : TableModel) (memory : ℕ) → writable memory ≡ None → old.permanent ≡ new.permanent → rows_of old memory ≡ rows_of new memory
other_rows old new memory is same = others_by old new (memory_of memory) is same

-- a change of a row leaves the permanent ones as they are
changed_keeps_permanent : (table new : TableModel) (memory : Option Memory) (number : ℕ) (change : RowModel → Option RowModel)
    → changed_by table memory number change ≡ Some new → KeepsPermanentRows table new
changed_keeps_permanent table new memory number change e = grind arith

pub asked_keeps_permanent : (may : Bool) (table new : TableModel) (id : RowId) (ask : Ask)
    → cond may (changed table id (asked_row ask)) None ≡ Some new → KeepsPermanentRows table new
asked_keeps_permanent true table new id ask e = changed_keeps_permanent table new (memory_of id.memory) id.number (asked_row ask) e
asked_keeps_permanent false table new id ask e = absurd (cc)

-- ---- blank messages

pub no_blank_rows : (table : TableModel) (memory : ℕ) → (memory == blank_memory) ≡ true → rows_of table memory ≡ []
no_blank_rows table memory is = ap (rows_of table) (eqb-true memory blank_memory is)
