use Rattle.std.proofs.Common.{◌≡◌}
use Rattle.dms_device.specs.Taken.{told}
use Rattle.dms_codes.proofs.Loops.{mapped_up_to}
use Rattle.dms_device.proofs.places.tell_each.Given as goal

abbrev pub invariant-loop-object : goal.invariant-loop-object
invariant-loop-object l = l.objects ≡ mapped_up_to told l.object-index l.initial.objects
