-- Cells as the numbers of their styles (this profile).
use Rattle.std.specs.Prelude.{◌≡◌, ℕ, ◌<◌, ◌≤◌, Bool, true, false, List, length, slice_index_or}
use Rattle.dms_face.specs.declared.cell.Cell.{Cell}
use Rattle.dms_face_pages.specs.Drawn.{unlit}
use Rattle.dms_face_pages.specs.Drawing.{covered}
use Rattle.dms_face_pages.specs.Styles.{most_styles}

-- the styles that cells have so far, for how many there is memory, and what each cell shows
pub record StyledCells : Type 0 where
  pub styles : List Cell
  pub memory : ℕ
  pub cells : List Cell

-- what a cell of the style with this number shows
abbrev pub style : List Cell → ℕ → Cell
style styles number = slice_index_or styles number (unlit 0)

-- The first style is unlit and each other one lit, an octet can name each of them, and each number is that of a style.
pub record AreStyled (styles : List Cell) (numbers : List ℕ) : Type 0 where
  pub some : 0 < length styles
  pub few : length styles ≤ most_styles
  pub unlit_first : (style styles 0).lit ≡ false
  pub lit_others : (k : ℕ) → 0 < k → k < length styles → (style styles k).lit ≡ true
  pub below : (k : ℕ) → k < length numbers → slice_index_or numbers k 0 < length styles

-- the number is that of a lit style
pub record IsLitStyle (styles : List Cell) (number : ℕ) : Type 0 where
  pub lit : 0 < number
  pub below : number < length styles
  pub shines : (style styles number).lit ≡ true

-- the cells that pass a test are lit with this cell, where they were not lit
pub record Lights (on : ℕ → Bool) (lit : Cell) (old new : StyledCells) : Type 0 where
  pub styles : new.styles ≡ old.styles
  pub len : length new.cells ≡ length old.cells
  pub cell : (other : Cell) (place : ℕ) → place < length old.cells
      → slice_index_or new.cells place other ≡ covered (on place) lit (slice_index_or old.cells place other)
