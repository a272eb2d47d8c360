use Rattle.std.proofs.Common.{length}
use Rattle.dms_measures.proofs.agent.agent_of.Given as goal

abbrev pub decreases-names : goal.decreases-names
decreases-names l = length l.left
