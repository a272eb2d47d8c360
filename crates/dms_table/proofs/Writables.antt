-- The rows of one type of memory, as they are lent, and the table with them.
use Rattle.std.proofs.Common.{◌≡◌, List, refl}
use Rattle.dms_codes.specs.declared.codes.Order.{Order}
use Rattle.dms_table.specs.declared.row.Services.{Services}
use Rattle.dms_table.specs.declared.writable.Writable.{Writable}
use Rattle.dms_table.specs.declared.writable.Writable.TheVariants.{Changeable, Volatile}
use Rattle.dms_table.specs.declared.writable.WritableRows.{WritableRows}
use Rattle.dms_table.specs.Rows.{RowModel, TableModel}
use Rattle.dms_table.specs.PlaceView.{of_type}
use Rattle.dms_table.specs.WritableView.{with_rows}

-- these rows are left behind the reference
pub record AreLent (memory : Writable) (all : WritableRows) (rows : List RowModel) : Type 0 where
  pub changeable : (with_rows all memory rows).changeable ≡ of_type memory rows all.changeable
  pub volatile : (with_rows all memory rows).volatile ≡ of_type memory all.volatile rows

pub are_lent : (memory : Writable) (all : WritableRows) (rows : List RowModel) → AreLent memory all rows
are_lent Changeable all rows = record { changeable = refl; volatile = refl }
are_lent Volatile all rows = record { changeable = refl; volatile = refl }

-- the table with these rows of a type of memory
abbrev pub with_type : TableModel → Writable → List RowModel → TableModel
with_type table memory rows = record table { changeable = of_type memory rows table.changeable; volatile = of_type memory table.volatile rows }

-- the table of these fields
abbrev pub table_by : List RowModel → WritableRows → Services → Order → TableModel
table_by permanent all services order =
    record { permanent = permanent; changeable = all.changeable; volatile = all.volatile; services = services; order = order }

pub table_lent : (permanent : List RowModel) (all : WritableRows) (services : Services) (order : Order) (memory : Writable) (rows : List RowModel)
    → AreLent memory all rows → table_by permanent (with_rows all memory rows) services order ≡ with_type (table_by permanent all services order) memory rows
table_lent permanent all services order memory rows lent = rw (lent.changeable, lent.volatile) refl
