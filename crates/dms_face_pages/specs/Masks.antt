-- Eight cells of a row at once (this profile).
use Rattle.std.specs.Prelude.{ℕ, ◌==◌, if◌then◌else◌, List, map, bit_and, slice_index_or}
use Rattle.std.specs.List.{range_with_len}
use Rattle.dms_face_font.specs.Glyph.{is_bit}

-- 255 for each of eight cells that an octet lights, its lowest bit the first, and 0 for each other
abbrev pub mask_of : ℕ → List ℕ
mask_of octet = map (λ k. if is_bit octet k then 255 else 0) (range_with_len 0 8)

-- the number of a cell, where it was not lit and its mask is 255 that of the style
abbrev pub masked : ℕ → ℕ → ℕ → ℕ
masked cell mask number = if cell == 0 then bit_and number mask else cell

abbrev pub eight_masked : List ℕ → List ℕ → ℕ → List ℕ
eight_masked cells mask number =
    map (λ k. masked (slice_index_or cells k 0) (slice_index_or mask k 0) number) (range_with_len 0 8)
