use Rattle.std.proofs.Common.{◌-◌}
use Rattle.dms_device_fonts.proofs.next.+first_place.Given as goal

abbrev pub decreases-first_place : goal.decreases-first_place
decreases-first_place a = 6 - a.number
