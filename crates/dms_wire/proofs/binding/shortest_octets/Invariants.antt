use Rattle.std.proofs.Common.{◌≤◌, length}
use Rattle.dms_wire.specs.Walk.{AreWhole, AreShortest}
use Rattle.dms_wire.proofs.binding.shortest_octets.Given as goal

-- the octets before what is left are the shortest of their bindings
abbrev pub invariant-loop-rest : goal.invariant-loop-rest
invariant-loop-rest l = (length l.rest ≤ length l.octets) × AreWhole l.rest × (AreShortest l.rest → AreShortest l.octets)

abbrev pub decreases-loop-rest : goal.decreases-loop-rest
decreases-loop-rest l = length l.rest
