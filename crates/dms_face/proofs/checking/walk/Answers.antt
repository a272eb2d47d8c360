use Rattle.std.proofs.Common.{arith}
use Rattle.dms_face.proofs.checking.walk.Goals as goal

pub loop-outcome-preserved : goal.loop-outcome-preserved
loop-outcome-preserved c = grind arith
