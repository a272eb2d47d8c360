use Rattle.std.proofs.Common.{length}
use Rattle.dms_sign_text_causes.proofs.whole.+number_twice.Given as goal

abbrev pub decreases-number_twice : goal.decreases-number_twice
decreases-number_twice l = length l.fonts.now
