use Rattle.std.proofs.Common.{arith}
use Rattle.dms_face.proofs.PlaceLaws.{taken_here}
use Rattle.dms_face.proofs.room.Places.is_taken.Goals as goal

pub returns-then-any_at : goal.returns-then-any_at
returns-then-any_at c = grind (arith, taken_here)

pub returns-else-any_at : goal.returns-else-any_at
returns-else-any_at c = grind (arith, taken_here)
