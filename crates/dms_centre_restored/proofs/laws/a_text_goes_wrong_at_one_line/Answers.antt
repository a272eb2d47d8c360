use Rattle.dms_centre_restored.proofs.OneLine.{one_line}
use Rattle.dms_centre_restored.proofs.laws.a_text_goes_wrong_at_one_line.Goals as goal

pub returns : goal.returns
returns c = one_line
