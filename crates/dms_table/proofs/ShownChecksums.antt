-- The checksum that is read of a valid row is that which it has while it is shown.
use Rattle.std.proofs.Common.{◌≡◌, Bool, true, cond, Option, Some, arith}
use Rattle.std.specs.Prelude.{option_map}
use Rattle.dms_codes.specs.declared.row_id.RowId.{RowId}
use Rattle.dms_codes.specs.Status.{is_valid}
use Rattle.dms_table.specs.Rows.{RowModel, TableModel, RowReading, blank_reading, reading, row_read, row_checksum}
use Rattle.dms_table.specs.ShownView.{HasItWhereValid}

by_kind : (b : Bool) (blank row : Option RowModel) (message : RowReading) → cond b (option_map blank_reading blank) (option_map reading row) ≡ Some message
    → is_valid message.row.status ≡ true → message.checksum ≡ cond b 0 (row_checksum message.row)
by_kind b blank row message e = grind arith

pub read_has_it : (table : TableModel) (id : RowId) (message : RowReading) → row_read table id ≡ Some message → HasItWhereValid id.memory message
read_has_it table id message e = grind arith
