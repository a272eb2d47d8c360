use Rattle.std.proofs.Common.{◌≡◌, ℕ, ◌<◌, false, get_or}
use Rattle.dms_device.specs.Object.{DeviceObject}
use Rattle.dms_device.specs.Taken.{was_set}
use Rattle.dms_device.proofs.places.place_set.Given as goal

abbrev pub invariant-loop-place : goal.invariant-loop-place
invariant-loop-place l = (k : ℕ) (d : DeviceObject) → k < l.place → was_set (get_or l.objects k d) ≡ false
