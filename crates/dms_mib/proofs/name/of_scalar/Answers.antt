use Rattle.std.proofs.Common.{refl, arith}
use Rattle.dms_mib.proofs.NameLaws.{object_named}
use Rattle.dms_mib.proofs.name.of_scalar.Goals as goal

pub invariant_of-result : goal.invariant_of-result
invariant_of-result c = (omega arith, object_named c.args.object _ _ c.number-group.ensures refl)
