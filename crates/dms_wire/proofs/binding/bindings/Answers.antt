use Rattle.dms_wire.proofs.Bindings.{whole_found}
use Rattle.dms_wire.proofs.binding.bindings.Goals as goal

pub invariant_of-result : goal.invariant_of-result
invariant_of-result c = whole_found c.args.end c.args.octets.now c.in_ok-check_bindings.ensures
