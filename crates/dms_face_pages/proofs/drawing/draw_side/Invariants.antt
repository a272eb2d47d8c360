use Rattle.std.proofs.Common.{◌≡◌, List, ◌++◌, length, map}
use Rattle.dms_face.specs.Layout.{PageModel}
use Rattle.dms_face.specs.Room.{placed_from, character_block}
use Rattle.dms_face.specs.Cells.{PlacedCharacter}
use Rattle.dms_face.specs.Totals.{Sums}
use Rattle.dms_face_pages.specs.Drawing.{placed_above, Shows}
use Rattle.dms_face_pages.proofs.PlacingLaws.{among}
use Rattle.dms_face_pages.proofs.drawing.draw_side.Given as goal

abbrev pub invariant-loop-character : goal.invariant-loop-character
invariant-loop-character l =
    Sums l.run (map character_block (among character_block l.side l.character-index l.characters))
    × ((page : PageModel) (before : List PlacedCharacter) → Shows l.face page before l.fn.cells.cells
    → Shows l.face page (before ++ map (placed_above l.bottom) (placed_from character_block l.first (among character_block l.side l.character-index l.characters))) l.cells.cells)
    × (length l.cells.cells ≡ length l.fn.cells.cells)
    × (l.cells.styles ≡ l.fn.cells.styles)
