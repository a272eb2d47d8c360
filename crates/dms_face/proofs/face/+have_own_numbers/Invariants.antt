use Rattle.std.proofs.Common.{length}
use Rattle.dms_face.proofs.face.+have_own_numbers.Given as goal

abbrev pub decreases-have_own_numbers : goal.decreases-have_own_numbers
decreases-have_own_numbers l = length l.fonts.now
