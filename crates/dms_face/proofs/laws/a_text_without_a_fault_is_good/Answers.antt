use Rattle.dms_face.proofs.GoodLaws.{faultless_law}
use Rattle.dms_face.proofs.laws.a_text_without_a_fault_is_good.Goals as goal

pub returns : goal.returns
returns c = faultless_law
