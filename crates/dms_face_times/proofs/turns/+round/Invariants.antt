use Rattle.std.proofs.Common.{length}
use Rattle.dms_face_times.proofs.turns.+round.Given as goal

abbrev pub decreases-round : goal.decreases-round
decreases-round l = length l.pages.now
