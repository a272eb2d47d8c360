use Rattle.dms_face.proofs.ApartLaws.{apart_law}
use Rattle.dms_face.proofs.laws.no_cell_is_lit_twice.Goals as goal

pub returns : goal.returns
returns c = apart_law
