use Rattle.dms_agent.proofs.Objects.{objects_change}
use Rattle.dms_agent.proofs.laws.objects_change_by_sets_alone.Goals as goal

pub returns : goal.returns
returns c = objects_change
