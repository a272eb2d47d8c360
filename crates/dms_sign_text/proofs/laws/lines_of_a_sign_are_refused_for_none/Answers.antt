use Rattle.dms_sign_text.proofs.Refused.{none_of_a_sign}
use Rattle.dms_sign_text.proofs.laws.lines_of_a_sign_are_refused_for_none.Goals as goal

pub returns : goal.returns
returns c = none_of_a_sign
