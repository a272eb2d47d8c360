-- What the cells of a row show while the characters of a page are drawn one by one (this profile).
use Rattle.std.specs.Prelude.{◌≡◌, ℕ, ◌-◌, ◌<◌, ◌&&◌, Bool, List, length, map, slice_index_or, nat_le}
use Rattle.std.specs.List.{find, range_with_len}
use Rattle.dms_face.specs.declared.cell.Cell.{Cell}
use Rattle.dms_face_font.specs.Glyph.{GlyphModel, lit_at}
use Rattle.dms_face.specs.Layout.{PageModel}
use Rattle.dms_face.specs.Cells.{PlacedCharacter, is_lit_by, cell_by}
use Rattle.dms_face_pages.specs.Drawn.{unlit}
use Rattle.dms_face_pages.specs.Drawing.{covered}
use Rattle.dms_face_pages.specs.declared.page_octets.Layer.{Layer}
use Rattle.dms_face_pages.specs.PageOctets.{cell_octet}

-- a row of a picture, drawn from column x on, lights the cell in this column
abbrev pub is_lit_from : ℕ → GlyphModel → ℕ → ℕ → Bool
is_lit_from x glyph row column = nat_le x column && lit_at glyph (column - x) row

-- the cells that pass a test are lit with this cell, where they were not lit
pub record Lights (on : ℕ → Bool) (lit : Cell) (old new : List Cell) : Type 0 where
  pub len : length new ≡ length old
  pub cell : (other : Cell) (column : ℕ) → column < length old
      → slice_index_or new column other ≡ covered (on column) lit (slice_index_or old column other)

-- the cells of row y show these characters of a page
pub record Shows (page : PageModel) (y : ℕ) (placed : List PlacedCharacter) (cells : List Cell) : Type 0 where
  pub cell : (other : Cell) (x : ℕ) → x < length cells
      → slice_index_or cells x other ≡ cell_by page (find (is_lit_by x y) placed)

-- what a layer says of the first cells
abbrev pub cells_octets : Layer → List Cell → ℕ → List ℕ
cells_octets layer cells count =
    map (λ x. cell_octet layer (slice_index_or cells x (unlit 0))) (range_with_len 0 count)
