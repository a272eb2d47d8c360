-- The lamps of a page as paths (Scalable Vector Graphics 1.1, paths; colours as MULTI numbers them, NTCIP 1203; their
-- shades are this profile's). A lamp is a dot: the round ends of a line without length.
use Rattle.std.specs.Prelude.{ℕ, ◌-◌, ◌==◌, ◌&&◌, Bool, not, if◌then◌else◌}
use Rattle.std.specs.Prelude.{List, [], ◌∷◌, ◌++◌, codes, decimal, fold}
use Rattle.std.specs.List.{flat_map, range_with_len, list_any}
use Rattle.dms_face.specs.declared.cell.Cell.{Cell}
use Rattle.dms_face_pages.specs.Drawn.{DrawnPage, cell_at}
use Rattle.dms_face_pages.specs.SameCells.{same_flash}

-- the shade of a colour
abbrev pub shade : ℕ → List ℕ
shade colour =
    if colour == 0 then codes "#000000"
    else if colour == 1 then codes "#ff0000"
    else if colour == 2 then codes "#ffff00"
    else if colour == 3 then codes "#00ff00"
    else if colour == 4 then codes "#00ffff"
    else if colour == 5 then codes "#0000ff"
    else if colour == 6 then codes "#ff00ff"
    else if colour == 7 then codes "#ffffff"
    else if colour == 8 then codes "#ff8000"
    else codes "#ffbf00"

-- ---- which lamps

-- the cell is lit in this colour with this flash
abbrev pub shows : Cell → Cell → Bool
shows style cell = cell.lit && (cell.colour == style.colour) && same_flash cell.flash style.flash

abbrev pub dot : ℕ → ℕ → List ℕ
dot x y = codes "M" ++ decimal x ++ codes " " ++ decimal y ++ codes "h0"

-- the lamp in column x and row y, where its cell shows that
abbrev pub lamp : DrawnPage → Cell → ℕ → ℕ → List ℕ
lamp page style y x = if shows style (cell_at page x y) then dot x y else []

abbrev pub lamps_of_row : DrawnPage → Cell → ℕ → List ℕ
lamps_of_row page style y = flat_map (lamp page style y) (range_with_len 0 page.width)

-- all lamps of a page that show that
abbrev pub lamps : DrawnPage → Cell → List ℕ
lamps page style = flat_map (lamps_of_row page style) (range_with_len 0 page.height)

-- a whole row of lamps: a dashed line with a dot in each column
abbrev pub whole_row : ℕ → ℕ → List ℕ
whole_row width y = codes "M0 " ++ decimal y ++ codes "h" ++ decimal (width - 1) ++ codes ".5"

abbrev pub whole_rows : ℕ → ℕ → List ℕ
whole_rows width height = flat_map (whole_row width) (range_with_len 0 height)

-- ---- what lit cells show

-- and what a cell shows, where it is lit and none of these shows the same
abbrev pub with_cell : List Cell → Cell → List Cell
with_cell styles cell =
    if cell.lit && not (list_any (λ style. shows style cell) styles) then styles ++ cell ∷ [] else styles

abbrev pub with_row : DrawnPage → List Cell → ℕ → List Cell
with_row page styles y = fold (λ more x. with_cell more (cell_at page x y)) styles (range_with_len 0 page.width)

-- what the lit cells of a page show, each once, in the order of rows
abbrev pub styles_of : DrawnPage → List Cell
styles_of page = fold (with_row page) [] (range_with_len 0 page.height)
