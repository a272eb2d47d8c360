use Rattle.std.proofs.Common.{refl}
use Rattle.dms_mib.specs.Objects.{objects}
use Rattle.dms_mib.proofs.laws.objects_are_the_table.Goals as goal

-- the whole table, computed
pub returns : goal.returns
unfolding objects
returns c = refl
