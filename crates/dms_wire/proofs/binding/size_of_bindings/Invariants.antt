use Rattle.std.proofs.Common.{◌≡◌, ◌≤◌, length, take}
use Rattle.dms_wire.proofs.Writes.{written}
use Rattle.dms_wire.proofs.binding.size_of_bindings.Given as goal
use Rattle.dms_wire_ber.specs.Limits.{longest_datagram}

abbrev pub invariant-loop-binding : goal.invariant-loop-binding
invariant-loop-binding l = (l.size ≡ length (written (take l.binding-index l.bindings))) × (l.size ≤ longest_datagram)
