use Rattle.std.proofs.Common.{length}
use Rattle.dms_measures.proofs.agent.played.Given as goal

abbrev pub decreases-steps : goal.decreases-steps
decreases-steps l = length l.left
