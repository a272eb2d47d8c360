use Rattle.dms_face.proofs.RuleLaws.{pages_law}
use Rattle.dms_face.proofs.laws.pages_have_what_was_last_said.Goals as goal

pub returns : goal.returns
returns c = pages_law
