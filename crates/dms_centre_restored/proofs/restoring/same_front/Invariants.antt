use Rattle.std.proofs.Common.{◌≡◌}
use Rattle.dms_centre_restored.specs.StateReading.{same_front}
use Rattle.dms_centre_restored.proofs.SameFront.{so_far}
use Rattle.dms_centre_restored.proofs.restoring.same_front.Given as goal

-- the octets before this index are the same
abbrev pub invariant-loop-index : goal.invariant-loop-index
invariant-loop-index l = so_far l.one l.other l.index ≡ same_front l.one l.other
