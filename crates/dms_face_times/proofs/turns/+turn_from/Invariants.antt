use Rattle.std.proofs.Common.{length}
use Rattle.dms_face_times.proofs.turns.+turn_from.Given as goal

abbrev pub decreases-turn_from : goal.decreases-turn_from
decreases-turn_from l = length l.pages.now
