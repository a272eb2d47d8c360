use Rattle.dms_sign_text.proofs.Refused.{one_refused}
use Rattle.dms_sign_text.proofs.laws.lines_are_refused_for_at_most_one.Goals as goal

pub returns : goal.returns
returns c = one_refused
