use Rattle.dms_face.proofs.WalkLaws.{local_law}
use Rattle.dms_face.proofs.laws.a_turn_changes_the_open_line_and_page_alone.Goals as goal

pub returns : goal.returns
returns c = local_law
