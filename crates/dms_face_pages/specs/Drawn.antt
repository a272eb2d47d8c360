-- A text's pages, drawn cell by cell (this profile).
use Rattle.std.specs.Prelude.{ℕ, ◌+◌, ◌*◌, ◌/◌, ◌%◌, false, List, map, None, slice_index_or, Result}
use Rattle.std.specs.List.{range_with_len}
use Rattle.dms_face.specs.declared.cell.Cell.{Cell}
use Rattle.dms_face.specs.declared.multi_fault.MultiFault.{MultiFault}
use Rattle.dms_face.specs.Face.{FaceModel}
use Rattle.dms_face.specs.Layout.{PageModel}
use Rattle.dms_face.specs.Fit.{fault_of, or_fault}
use Rattle.dms_face.specs.Cells.{pages_of, cell_of}

-- a page with all its cells, row by row from the top, each row from the left
pub record DrawnPage : Type 0 where
  pub width : ℕ
  pub height : ℕ
  pub background : ℕ
  pub on : ℕ
  pub off : ℕ
  pub cells : List Cell

abbrev pub unlit : ℕ → Cell
unlit background = record { lit = false; colour = background; flash = None }

-- the cell in column x and row y
abbrev pub cell_at : DrawnPage → ℕ → ℕ → Cell
cell_at page x y = slice_index_or page.cells (y * page.width + x) (unlit page.background)

-- a page, with the cells that its characters give it
abbrev pub drawn : FaceModel → PageModel → DrawnPage
drawn face page = record {
  width = face.width;
  height = face.height;
  background = page.background;
  on = page.on;
  off = page.off;
  cells = map (λ place. cell_of face page (place % face.width) (place / face.width))
      (range_with_len 0 (face.width * face.height));
}

-- the pages of a text, or its fault
abbrev pub drawn_text : FaceModel → List ℕ → Result (List DrawnPage) MultiFault
drawn_text face text = or_fault (map (drawn face) (pages_of face text)) (fault_of face text)
