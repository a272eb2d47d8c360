use Rattle.dms_face_pages.specs.Styles.{with_line}
use Rattle.dms_face_pages.proofs.PageStyles.{Adds}
use Rattle.dms_face_pages.proofs.drawing.add_lines.Given as goal

abbrev pub invariant-loop-line : goal.invariant-loop-line
invariant-loop-line l = Adds with_line l.lines l.line-index l.fn.cells l.cells
