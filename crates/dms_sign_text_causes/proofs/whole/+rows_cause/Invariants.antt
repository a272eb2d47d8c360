use Rattle.std.proofs.Common.{length}
use Rattle.dms_sign_text_causes.proofs.whole.+rows_cause.Given as goal

abbrev pub decreases-rows_cause : goal.decreases-rows_cause
decreases-rows_cause l = length l.rows.now
