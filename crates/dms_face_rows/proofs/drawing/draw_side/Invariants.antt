use Rattle.std.proofs.Common.{◌≡◌, List, ◌++◌, length, map}
use Rattle.dms_face.specs.Layout.{PageModel}
use Rattle.dms_face.specs.Room.{placed_from, character_block}
use Rattle.dms_face.specs.Cells.{PlacedCharacter}
use Rattle.dms_face.specs.Totals.{Sums}
use Rattle.dms_face_pages.specs.Drawing.{placed_above}
use Rattle.dms_face_pages.proofs.PlacingLaws.{among}
use Rattle.dms_face_rows.specs.Drawing.{Shows}
use Rattle.dms_face_rows.proofs.drawing.draw_side.Given as goal

abbrev pub invariant-loop-character : goal.invariant-loop-character
invariant-loop-character l =
    Sums l.run (map character_block (among character_block l.side l.character-index l.characters))
    × ((page : PageModel) (before : List PlacedCharacter) → Shows page l.y before l.fn.cells
    → Shows page l.y (before ++ map (placed_above l.bottom) (placed_from character_block l.first (among character_block l.side l.character-index l.characters))) l.cells)
    × (length l.cells ≡ length l.fn.cells)
