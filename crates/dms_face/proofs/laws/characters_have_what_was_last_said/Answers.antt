use Rattle.dms_face.proofs.RuleLaws.{characters_law}
use Rattle.dms_face.proofs.laws.characters_have_what_was_last_said.Goals as goal

pub returns : goal.returns
returns c = characters_law
