use Rattle.dms_face.proofs.GoodLaws.{empty_is_good}
use Rattle.dms_face.proofs.laws.empty_text_is_good.Goals as goal

pub returns : goal.returns
returns c = empty_is_good
