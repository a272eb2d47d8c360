use Rattle.dms_mib_instances.proofs.WhichInstances.{object_there, cell_read}
use Rattle.dms_mib_instances.proofs.laws.each_has_its_instances.Goals as goal

pub returns : goal.returns
returns c = record { object = object_there; cell = cell_read }
