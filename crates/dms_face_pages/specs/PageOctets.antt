-- Pages as octets (this profile): of each page its times, its background, and an octet for each cell.
use Rattle.std.specs.Prelude.{ℕ, ◌+◌, ◌*◌, ◌/◌, ◌%◌, ◌==◌, if◌then◌else◌, List, [], ◌∷◌, ◌++◌, length, map, flat_map}
use Rattle.std.specs.Prelude.{Option, Some, None, slice_index_or}
use Rattle.std.specs.List.{range_with_len}
use Rattle.dms_multi.specs.declared.item.Lead.{Lead}
use Rattle.dms_multi.specs.declared.item.Lead.TheVariants.{Lit, Dark}
use Rattle.dms_face.specs.declared.cell.Flash.{Flash}
use Rattle.dms_face.specs.declared.cell.Cell.{Cell}
use Rattle.dms_face_pages.specs.Drawn.{DrawnPage, cell_at}
use Rattle.dms_face_pages.specs.declared.page_octets.Layer.{Layer}
use Rattle.dms_face_pages.specs.declared.page_octets.Layer.TheVariants.{Look, LitTime, DarkTime}

-- ---- a cell

-- 16 is lit, 32 is flashing, and 64 is dark at first
abbrev pub first_mark : Lead → ℕ
first_mark Lit = 48
first_mark Dark = 112

abbrev pub lit_mark : Option Flash → ℕ
lit_mark None = 16
lit_mark (Some flash) = first_mark flash.first

-- its colour, and how it is lit
abbrev pub look : Cell → ℕ
look cell = if cell.lit then cell.colour % 16 + lit_mark cell.flash else cell.colour % 16

abbrev pub lit_time : Option Flash → ℕ
lit_time None = 0
lit_time (Some flash) = flash.lit

abbrev pub dark_time : Option Flash → ℕ
dark_time None = 0
dark_time (Some flash) = flash.dark

abbrev pub layer_of : ℕ → Layer
layer_of number = if number == 0 then Look else if number == 1 then LitTime else DarkTime

-- what a layer says of a cell: its look, or how long it is lit or dark while it flashes
abbrev pub cell_octet : Layer → Cell → ℕ
cell_octet Look cell = look cell
cell_octet LitTime cell = lit_time cell.flash
cell_octet DarkTime cell = dark_time cell.flash

-- ---- pages

-- row y from the left
abbrev pub row_octets : Layer → DrawnPage → ℕ → List ℕ
row_octets layer page y = flat_map (λ x. cell_octet layer (cell_at page x y) ∷ []) (range_with_len 0 page.width)

-- the rows from the top
abbrev pub rows_octets : Layer → DrawnPage → List ℕ
rows_octets layer page = flat_map (row_octets layer page) (range_with_len 0 page.height)

-- its times in tenths of a second, its background, and its cells
abbrev pub page_octets : Layer → DrawnPage → List ℕ
page_octets layer page = (page.on ∷ page.off ∷ page.background ∷ []) ++ rows_octets layer page

abbrev pub pages_octets : Layer → List DrawnPage → List ℕ
pages_octets layer pages = flat_map (page_octets layer) pages

-- ---- a row as bits

-- 1 where the look is that of a lit cell; beyond the row nothing is lit
abbrev pub lit_in : List ℕ → ℕ → ℕ
lit_in looks x = slice_index_or looks x 0 / 16 % 2

-- eight cells from the left, the first in the highest bit
abbrev pub eight_bits : List ℕ → ℕ → ℕ
eight_bits looks x =
    128 * lit_in looks x + 64 * lit_in looks (x + 1) + 32 * lit_in looks (x + 2) + 16 * lit_in looks (x + 3)
    + 8 * lit_in looks (x + 4) + 4 * lit_in looks (x + 5) + 2 * lit_in looks (x + 6) + lit_in looks (x + 7)

abbrev pub row_bits : List ℕ → List ℕ
row_bits looks = map (λ k. eight_bits looks (8 * k)) (range_with_len 0 ((length looks + 7) / 8))
