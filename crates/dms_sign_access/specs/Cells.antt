-- What a column of dmsMessageTable reads of a row (NTCIP 1203, each column by its name).
use Rattle.std.specs.Prelude.{ℕ, pos}
use Rattle.dms_wire.specs.Message.{ObjectValue, integer, octet_string}
use Rattle.dms_codes.specs.declared.codes.Order.{Order}
use Rattle.dms_codes.specs.declared.row_id.RowId.{RowId}
use Rattle.dms_codes.specs.Status.{status_number}
use Rattle.dms_codes.specs.Codes.{in_order}
use Rattle.dms_mib.specs.declared.column.Column.{Column}
use Rattle.dms_mib.specs.declared.column.Column.TheVariants as columns
use Rattle.dms_table.specs.Rows.{RowReading}

abbrev pub number_value : ℕ → ObjectValue
number_value n = integer (pos n)

-- the checksum is in the sign's order
abbrev pub cell_value : Order → Column → RowId → RowReading → ObjectValue
cell_value order columns.MemoryType id reading = number_value id.memory
cell_value order columns.Number id reading = number_value id.number
cell_value order columns.MultiString id reading = octet_string reading.row.text
cell_value order columns.Owner id reading = octet_string reading.row.owner
cell_value order columns.Crc id reading = number_value (in_order order reading.checksum)
cell_value order columns.Beacon id reading = number_value reading.row.beacon
cell_value order columns.PixelService id reading = number_value reading.row.pixel
cell_value order columns.RunTimePriority id reading = number_value reading.row.priority
cell_value order columns.Status id reading = number_value (status_number reading.row.status)
