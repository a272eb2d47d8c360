use Rattle.std.proofs.Common.{◌≡◌, ◌++◌, take}
use Rattle.dms_wire.proofs.Writes.{written}
use Rattle.dms_wire.proofs.binding.put_bindings.Given as goal

abbrev pub invariant-loop-binding : goal.invariant-loop-binding
invariant-loop-binding l = l.out.items ≡ l.fn.out.items ++ written (take l.binding-index l.bindings)
