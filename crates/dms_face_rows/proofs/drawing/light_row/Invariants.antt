use Rattle.dms_face_rows.specs.Drawing.{Lights}
use Rattle.dms_face_rows.proofs.RowLaws.{is_done}
use Rattle.dms_face_rows.proofs.drawing.light_row.Given as goal

abbrev pub invariant-loop-column : goal.invariant-loop-column
invariant-loop-column l = Lights (is_done l.x l.glyph l.row l.column) l.lit l.fn.cells l.cells
