use Rattle.std.proofs.Common.{◌+◌, ◌-◌}
use Rattle.dms_device_fonts.specs.Fonts.{column_count}
use Rattle.dms_device_fonts.proofs.next.+first_cell.Given as goal

abbrev pub decreases-first_cell : goal.decreases-first_cell
decreases-first_cell a = column_count a.table + 1 - a.column
