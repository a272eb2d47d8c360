use Rattle.std.proofs.Common.{◌+◌, ◌/◌, ◌%◌, ◌&&◌}
use Rattle.std.specs.Prelude.{nat_lt}
use Rattle.dms_face_pages.specs.Drawing.{is_in_picture}
use Rattle.dms_face_pages.specs.Styled.{style, Lights}
use Rattle.dms_face_pages.proofs.drawing.draw_picture.Given as goal

abbrev pub invariant-loop-row : goal.invariant-loop-row
invariant-loop-row l =
    Lights (λ place. is_in_picture (place % l.face.width) (place / l.face.width) l.x l.y l.glyph && nat_lt (place / l.face.width) (l.y + l.row))
    (style l.fn.cells.styles l.number) l.fn.cells l.cells
