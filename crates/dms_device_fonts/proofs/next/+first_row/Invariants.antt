use Rattle.std.proofs.Common.{◌+◌, ◌-◌, length}
use Rattle.dms_device_fonts.proofs.next.+first_row.Given as goal

abbrev pub decreases-first_row : goal.decreases-first_row
decreases-first_row a = length a.fonts.now + 1 - a.index
