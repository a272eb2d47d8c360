use Rattle.std.proofs.Common.{arith}
use Rattle.dms_face.proofs.totals.Totals.take.Goals as goal

pub returns-in-Background : goal.returns-in-Background
returns-in-Background c = grind arith
