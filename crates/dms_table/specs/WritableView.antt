-- What the rows that can be changed end as, where those of a type of memory are lent (this profile).
use Rattle.std.specs.Prelude.{List}
use Rattle.std.specs.Borrow.{Lends, MutBor, Fml}
use Rattle.dms_table.specs.declared.writable.Writable.{Writable}
use Rattle.dms_table.specs.declared.writable.Writable.TheVariants.{Changeable, Volatile}
use Rattle.dms_table.specs.declared.writable.WritableRows.{WritableRows}
use Rattle.dms_table.specs.contracts.writable.WritableRows.{the_row}
use Rattle.dms_table.specs.contracts.table.CountedRows.{the_row as counted_row}
use Rattle.dms_table.specs.Rows.{RowModel}

-- the same, with these rows of a type of memory
abbrev pub with_rows : WritableRows → Writable → List RowModel → WritableRows
with_rows all Changeable rows = record all { changeable = rows }
with_rows all Volatile rows = record all { volatile = rows }

-- they end with the last rows that are left behind the reference
abbrev pub LendsRows : MutBor WritableRows → Writable → MutBor (List RowModel) → Fml
LendsRows all memory rows = Lends the_row counted_row all rows (with_rows all.now memory)
