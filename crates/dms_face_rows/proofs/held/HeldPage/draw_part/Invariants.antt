use Rattle.std.proofs.Common.{◌≡◌, List, ◌++◌, length, map}
use Rattle.std.specs.List.{flat_map}
use Rattle.dms_face.specs.Layout.{PageModel}
use Rattle.dms_face.specs.Room.{placed_from, line_block}
use Rattle.dms_face.specs.Cells.{PlacedCharacter, placed_in_line}
use Rattle.dms_face.specs.Totals.{Sums}
use Rattle.dms_face_pages.proofs.PlacingLaws.{among}
use Rattle.dms_face_rows.specs.Held.{lines_of}
use Rattle.dms_face_rows.specs.Drawing.{Shows}
use Rattle.dms_face_rows.proofs.held.HeldPage.draw_part.Given as goal

abbrev pub invariant-loop-line : goal.invariant-loop-line
invariant-loop-line l =
    Sums l.run (map line_block (among line_block l.part l.line-index (lines_of l.self)))
    × ((page : PageModel) (before : List PlacedCharacter) → Shows page l.y before l.fn.cells
    → Shows page l.y (before ++ flat_map (placed_in_line l.face) (placed_from line_block l.first (among line_block l.part l.line-index (lines_of l.self)))) l.cells)
    × (length l.cells ≡ length l.fn.cells)
