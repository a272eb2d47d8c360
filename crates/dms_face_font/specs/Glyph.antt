-- A character's picture (NTCIP 1203, characterBitmap).
use Rattle.std.specs.Prelude.{◌≡◌, ℕ, zero, suc, ◌/◌, ◌%◌, ◌^◌, ◌==◌, ◌<◌, ◌≤◌, ◌*◌, ◌+◌, Bool, false}
use Rattle.std.specs.Prelude.{if◌then◌else◌, map, List, [], ◌∷◌, ◌++◌, length, take, drop, slice_index_or}
use Rattle.std.specs.Int.{bit_at}
use Rattle.std.specs.List.{flat_map, range_with_len, AllByRecursion}

-- a character, the width of its picture, and the picture's rows from the top, each from the left
pub record GlyphModel : Type 0 where
  pub character : ℕ
  pub width : ℕ
  pub rows : List (List Bool)

-- whether the picture has a bit there; outside of it there is none
abbrev pub lit_at : GlyphModel → ℕ → ℕ → Bool
lit_at glyph column row = slice_index_or (slice_index_or glyph.rows row []) column false

-- the eight bits of an octet, the high one first
abbrev pub octet_bits : ℕ → List Bool
octet_bits octet = map (λ k. octet / 2 ^ k % 2 == 1) (7 ∷ 6 ∷ 5 ∷ 4 ∷ 3 ∷ 2 ∷ 1 ∷ 0 ∷ [])

abbrev pub bits_of : List ℕ → List Bool
bits_of octets = flat_map octet_bits octets

-- all rows, one after the other
abbrev pub joined : List (List Bool) → List Bool
joined [] = []
joined (row ∷ rows) = row ++ joined rows

-- Octets are the bits of a picture, row by row, with less than one octet of padding after them.
pub record SpellsRows (width height : ℕ) (rows : List (List Bool)) (octets : List ℕ) : Type 0 where
  pub padding : List Bool
  pub bits : bits_of octets ≡ joined rows ++ padding
  pub short : length padding < 8
  pub height_is : length rows ≡ height
  pub width_is : AllByRecursion (λ row. length row ≡ width) rows

-- bits cut into so many rows of one width
abbrev pub rows_of : ℕ → ℕ → List Bool → List (List Bool)
rows_of width zero bits = []
rows_of width (suc height) bits = take width bits ∷ rows_of width height (drop width bits)

-- an octet of these bits, the high one first; those that it lacks are zeros
abbrev pub octet_from : ℕ → List Bool → ℕ
octet_from zero bits = 0
octet_from (suc places) [] = 0
octet_from (suc places) (bit ∷ bits) = (if bit then 2 ^ places else 0) + octet_from places bits

-- bits as whole octets, the high one of each first, with zeros after the last
abbrev pub octets_holding : List Bool → List ℕ
octets_holding bits = map (octet_from 8) (rows_of 8 ((length bits + 7) / 8) bits)

-- characterBitmap: the bits of a picture, row by row from the top, each from the left
abbrev pub bitmap_octets : GlyphModel → List ℕ
bitmap_octets glyph = octets_holding (joined glyph.rows)

-- the picture that octets are
abbrev pub glyph_from : ℕ → ℕ → ℕ → List ℕ → GlyphModel
glyph_from character width height octets =
    record { character = character; width = width; rows = rows_of width height (bits_of octets) }

-- octets that are a picture: as many as its bits take, and its limits
pub record IsPicture (character width height : ℕ) (octets : List ℕ) : Type 0 where
  pub enough : length octets ≡ (width * height + 7) / 8
  pub least_character : 1 ≤ character
  pub least_width : 1 ≤ width
  pub greatest_width : width ≤ 32
  pub least_height : 1 ≤ height
  pub greatest_height : height ≤ 32

-- whether a number has this bit: the lowest one is bit 0
abbrev pub is_bit : ℕ → ℕ → Bool
is_bit number place = bit_at number place == 1

-- the row that a number is: its lowest bit is the first column
abbrev pub row_bits : ℕ → ℕ → List Bool
row_bits width number = map (is_bit number) (range_with_len 0 width)

-- the number that a row is
abbrev pub row_number : List Bool → ℕ
row_number [] = 0
row_number (bit ∷ bits) = (if bit then 1 else 0) + 2 * row_number bits

-- the picture whose rows are these numbers
abbrev pub glyph_of_rows : ℕ → ℕ → List ℕ → GlyphModel
glyph_of_rows character width rows = record { character = character; width = width; rows = map (row_bits width) rows }

-- what the code keeps of a picture: its rows as numbers, its octets, and its limits
pub record AreRows (character width height : ℕ) (rows bitmap : List ℕ) : Type 0 where
  pub least_character : 1 ≤ character
  pub least_width : 1 ≤ width
  pub greatest_width : width ≤ 32
  pub least_height : 1 ≤ height
  pub greatest_height : height ≤ 32
  pub height_is : length rows ≡ height
  pub within : (row : ℕ) → slice_index_or rows row 0 < 2 ^ width
  pub bitmap_is : bitmap ≡ bitmap_octets (glyph_of_rows character width rows)
