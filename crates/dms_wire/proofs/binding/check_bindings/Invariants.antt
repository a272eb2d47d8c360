use Rattle.std.proofs.Common.{◌≤◌, length}
use Rattle.dms_wire.proofs.Bindings.{IsRest}
use Rattle.dms_wire.proofs.binding.check_bindings.Given as goal

abbrev pub invariant-loop-rest : goal.invariant-loop-rest
invariant-loop-rest l = (length l.rest ≤ length l.octets) × IsRest l.end l.octets l.rest

abbrev pub decreases-loop-rest : goal.decreases-loop-rest
decreases-loop-rest l = length l.rest
