use Rattle.dms_face.proofs.RuleLaws.{page_count_law}
use Rattle.dms_face.proofs.laws.pages_are_counted.Goals as goal

pub returns : goal.returns
returns c = page_count_law
