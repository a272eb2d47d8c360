-- Pages as text (this profile): a line of a page's times and its background, and a line for each row of the matrix.
use Rattle.std.specs.Prelude.{ℕ, if◌then◌else◌, List, ◌++◌, codes, decimal, flat_map}
use Rattle.std.specs.List.{range_with_len, enumerate_from}
use Rattle.dms_face.specs.declared.cell.Cell.{Cell}
use Rattle.dms_face_pages.specs.Drawn.{DrawnPage, cell_at}

-- a dot for a cell that is unlit, else the digit of its colour
abbrev pub cell_text : Cell → List ℕ
cell_text cell = if cell.lit then decimal cell.colour else codes "."

-- the cells of row y from the left
abbrev pub cells_text : DrawnPage → ℕ → List ℕ
cells_text page y = flat_map (λ x. cell_text (cell_at page x y)) (range_with_len 0 page.width)

abbrev pub row_text : DrawnPage → ℕ → List ℕ
row_text page y = cells_text page y ++ codes "\n"

-- the number of the page, its times in tenths of a second, and its background
abbrev pub page_line : ℕ × DrawnPage → List ℕ
page_line numbered =
    codes "page " ++ decimal numbered.0 ++ codes " on " ++ decimal numbered.1.on
    ++ codes " off " ++ decimal numbered.1.off ++ codes " back " ++ decimal numbered.1.background ++ codes "\n"

-- the rows of a page from the top
abbrev pub rows_text : DrawnPage → List ℕ
rows_text page = flat_map (row_text page) (range_with_len 0 page.height)

abbrev pub page_text : ℕ × DrawnPage → List ℕ
page_text numbered = page_line numbered ++ rows_text numbered.1

-- pages are counted from 1
abbrev pub pages_text : List DrawnPage → List ℕ
pages_text pages = flat_map page_text (enumerate_from 1 pages)
