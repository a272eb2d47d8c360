-- What cells show while the characters of a page are drawn one by one (this profile).
use Rattle.std.specs.Prelude.{◌≡◌, ℕ, ◌+◌, ◌-◌, ◌/◌, ◌%◌, ◌==◌, ◌<◌, ◌&&◌, Bool, true}
use Rattle.std.specs.Prelude.{if◌then◌else◌, List, length, slice_index_or, nat_lt, nat_le}
use Rattle.std.specs.List.{find, flat_map}
use Rattle.dms_face.specs.declared.cell.Cell.{Cell}
use Rattle.dms_face_font.specs.Glyph.{GlyphModel, lit_at}
use Rattle.dms_face.specs.Face.{FaceModel}
use Rattle.dms_face.specs.Layout.{Style, Character, Line, PageModel}
use Rattle.dms_face.specs.declared.justification.Place.{Place}
use Rattle.dms_face.specs.declared.room.Block.{Block}
use Rattle.dms_face.specs.Room.{is_at, line_block, spread}
use Rattle.dms_face.specs.Cells.{PlacedCharacter, placed_in_line, is_lit_by, cell_by}

-- the cell that a character lights
abbrev pub lit_cell : Style → Cell
lit_cell style = record { lit = true; colour = style.foreground; flash = style.flash }

-- a cell after one character more, which may light it: what is lit stays
abbrev pub covered : Bool → Cell → Cell → Cell
covered on lit cell = if on then (if cell.lit then cell else lit) else cell

-- a row of a picture lights the cell at this place, where it is drawn from the cell first on, in so many columns
abbrev pub is_lit_in_row : ℕ → ℕ → GlyphModel → ℕ → ℕ → Bool
is_lit_in_row first columns glyph row place =
    nat_le first place && nat_lt place (first + columns) && lit_at glyph (place - first) row

-- a row of a picture, drawn from column x on in line y of a matrix, lights the cell at this place
abbrev pub is_lit_on_row : ℕ → ℕ → ℕ → GlyphModel → ℕ → ℕ → Bool
is_lit_on_row width x y glyph row place =
    (place / width == y) && nat_le x (place % width) && lit_at glyph (place % width - x) row

-- a picture with its left top corner in column x of line y has its bit there
abbrev pub is_in_picture : ℕ → ℕ → ℕ → ℕ → GlyphModel → Bool
is_in_picture column line x y glyph = nat_le x column && nat_le y line && lit_at glyph (column - x) (line - y)

-- the things whose blocks have this place
abbrev pub has_place : {A : Type 0} → (A → Block) → Place → A → Bool
has_place block place x = is_at place (block x)

-- a character on the bottom of its line
abbrev pub placed_above : ℕ → ℕ × Character → PlacedCharacter
placed_above bottom at_x = record { x = at_x.0; y = bottom - at_x.1.style.font.height; character = at_x.1 }

-- the characters of a page's lines
abbrev pub lines_characters : FaceModel → List Line → List PlacedCharacter
lines_characters face lines = flat_map (placed_in_line face) (spread line_block face.height lines)

-- the cells show these characters of a page
pub record Shows (face : FaceModel) (page : PageModel) (placed : List PlacedCharacter)
    (cells : List Cell) : Type 0 where
  pub cell : (other : Cell) (place : ℕ) → place < length cells → slice_index_or cells place other
      ≡ cell_by page (find (is_lit_by (place % face.width) (place / face.width)) placed)
