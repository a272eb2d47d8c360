-- The pages of a text, and what each of their cells shows (NTCIP 1203, MULTI).
use Rattle.std.specs.Prelude.{ℕ, ◌+◌, ◌-◌, ◌&&◌, Bool, true, false, List, map, Option, Some, None, nat_le}
use Rattle.std.specs.List.{find, flat_map}
use Rattle.dms_multi.specs.Outcomes.{items_of}
use Rattle.dms_face.specs.declared.cell.Cell.{Cell}
use Rattle.dms_face_font.specs.Glyph.{lit_at}
use Rattle.dms_face.specs.Face.{FaceModel}
use Rattle.dms_face.specs.Layout.{Character, Line, PageModel, layout_of}
use Rattle.dms_face.specs.Room.{character_block, line_block, line_height, spread}
use Rattle.dms_face.specs.Fit.{turns_of}

-- the pages of a text's items
unfoldable pub pages_of : FaceModel → List ℕ → List PageModel
pages_of face text = (layout_of face (turns_of (items_of text))).pages

-- a character at the place of its picture's left top corner
pub record PlacedCharacter : Type 0 where
  pub x : ℕ
  pub y : ℕ
  pub character : Character

-- A picture stands on the bottom of its line.
abbrev pub placed_on : ℕ → Line → ℕ × Character → PlacedCharacter
placed_on top line at_x =
    record { x = at_x.0; y = top + line_height line - at_x.1.style.font.height; character = at_x.1 }

abbrev pub placed_in_line : FaceModel → ℕ × Line → List PlacedCharacter
placed_in_line face at_y = map (placed_on at_y.0 at_y.1) (spread character_block face.width at_y.1.characters)

-- the characters of a page
abbrev pub page_characters : FaceModel → PageModel → List PlacedCharacter
page_characters face page = flat_map (placed_in_line face) (spread line_block face.height page.lines)

-- the character's picture has its bit there
abbrev pub is_lit_by : ℕ → ℕ → PlacedCharacter → Bool
is_lit_by x y placed =
    nat_le placed.x x && nat_le placed.y y && lit_at placed.character.glyph (x - placed.x) (y - placed.y)

abbrev pub cell_by : PageModel → Option PlacedCharacter → Cell
cell_by page None = record { lit = false; colour = page.background; flash = None }
cell_by page (Some placed) =
    record { lit = true; colour = placed.character.style.foreground; flash = placed.character.style.flash }

-- the cell of a page in column x and row y
unfoldable pub cell_of : FaceModel → PageModel → ℕ → ℕ → Cell
cell_of face page x y = cell_by page (find (is_lit_by x y) (page_characters face page))
