use Rattle.dms_face_pages.specs.Styles.{with_character}
use Rattle.dms_face_pages.proofs.PageStyles.{Adds}
use Rattle.dms_face_pages.proofs.drawing.add_line.Given as goal

abbrev pub invariant-loop-character : goal.invariant-loop-character
invariant-loop-character l = Adds with_character l.characters l.character-index l.fn.cells l.cells
