use Rattle.std.proofs.Common.{◌-◌}
use Rattle.dms_device.proofs.Found.{IsHalved}
use Rattle.dms_device.proofs.places.place_after.Given as goal

abbrev pub invariant-loop-low : goal.invariant-loop-low
invariant-loop-low l = IsHalved l.name l.objects l.low l.high

abbrev pub decreases-loop-low : goal.decreases-loop-low
decreases-loop-low l = l.high - l.low
