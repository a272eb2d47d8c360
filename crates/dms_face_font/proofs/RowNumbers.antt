-- The rows of a picture as numbers.
use Rattle.std.proofs.Common.{true, ◌≡◌, ℕ, zero, suc, ◌+◌, ◌*◌, ◌/◌, ◌^◌, ◌==◌, ◌<◌, Bool, false, if◌then◌else◌, List, [], ◌∷◌, ◌++◌, length, length-take, map, take, drop, get_or, set, refl, sym, ap, subst, ◌∙◌, arith, inl, inr}
use Rattle.std.specs.List.{range_with_len, AllByRecursion}
use Rattle.std.proofs.Math.Nat.{pow-suc}
use Rattle.std.proofs.Math.Pow.{pow_mono}
use Rattle.std.proofs.lemmas.Bool.{cases_lt}
use Rattle.std.proofs.lemmas.Nat.{pow_pos}
use Rattle.std.proofs.lemmas.Nat.Bits.{bit_at-zero, bit_at-suc, bit_at_above}
use Rattle.std.proofs.lemmas.List.{length-map, get_or-map, get_or_past, take_more_set, take_all, map_more}
use Rattle.std.proofs.lemmas.List.FromFn.{length-map-range_with_len, get_or-map-range_with_len}
use Rattle.dms_face_font.specs.Glyph.{GlyphModel, lit_at, is_bit, row_bits, row_number, glyph_of_rows, glyph_from, bits_of, rows_of, bitmap_octets, octets_holding, AreRows, IsPicture}
use Rattle.dms_face_font.proofs.Pictures.{length-rows_of, row_at}
use Rattle.dms_face_font.proofs.RowLaws.{length-bits_of, widths_of, joined_rows}

-- ---- one row

abbrev bit_value : Bool → ℕ
bit_value bit = if bit then 1 else 0

bit_value_below : (bit : Bool) → bit_value bit < 2
bit_value_below bit = grind arith

pub number_below : (bits : List Bool) → row_number bits < 2 ^ length bits
number_below [] = omega arith
number_below (bit ∷ bits) = omega (arith, number_below bits, bit_value_below bit, pow-suc 2 (length bits))

lowest_is : (bit : Bool) (n : ℕ) → is_bit (bit_value bit + 2 * n) 0 ≡ bit
lowest_is bit n = grind arith

pub half_is : (bit : Bool) (n : ℕ) → (bit_value bit + 2 * n) / 2 ≡ n
half_is bit n = omega (arith, bit_value_below bit)

-- the bits of a number above its lowest are those of its half
pub next_bits : (n a width : ℕ) → map (is_bit n) (range_with_len (a + 1) width) ≡ map (is_bit (n / 2)) (range_with_len a width)
next_bits n a zero = refl
next_bits n a (suc width) =
    let next : a + 1 ≡ suc a = omega arith in
    ap (λ bit. bit ∷ map (is_bit n) (range_with_len (a + 1 + 1) width)) (ap (is_bit n) next ∙ ap (λ d. d == 1) (bit_at-suc n a))
    ∙ ap (λ bits. is_bit (n / 2) a ∷ bits) (next_bits n (a + 1) width)

-- A row is again the bits of its number.
pub bits_again : (bits : List Bool) → row_bits (length bits) (row_number bits) ≡ bits
bits_again [] = refl
bits_again (bit ∷ bits) =
    let n = row_number bits in
    ap (λ first. first ∷ map (is_bit (bit_value bit + 2 * n)) (range_with_len (0 + 1) (length bits))) (lowest_is bit n)
    ∙ ap (λ rest. bit ∷ rest) (next_bits (bit_value bit + 2 * n) 0 (length bits) ∙ ap (λ half. map (is_bit half) (range_with_len 0 (length bits))) (half_is bit n) ∙ bits_again bits)

-- the first columns of a row
pub number_small : (bits : List Bool) (column : ℕ) → row_number (take column bits) < 2 ^ column
number_small bits column = grind (arith, length-take, number_below, pow_mono)

-- ---- all rows

-- one row more
pub one_row_more : (width height row first number : ℕ) (bits : List Bool) (rows : List ℕ) → row < height → row < length rows → first ≡ row * width
    → take row rows ≡ map row_number (take row (rows_of width height bits)) → number ≡ row_number (take width (drop first bits))
    → take (row + 1) (set rows row number) ≡ map row_number (take (row + 1) (rows_of width height bits))
one_row_more width height row first number bits rows below inside at so_far is =
    let cut = rows_of width height bits in
    let last : number ≡ row_number (get_or cut row []) =
    is ∙ ap (λ k. row_number (take width (drop k bits))) at ∙ sym (ap row_number (row_at width height row bits below)) in
    take_more_set rows row number inside ∙ ap (λ xs. xs ++ number ∷ []) so_far ∙ ap (λ n. map row_number (take row cut) ++ n ∷ []) last
    ∙ sym (map_more row_number cut row [] (omega (arith, length-rows_of width height bits)))

-- all of them
pub all_rows : (width height row : ℕ) (bits : List Bool) (rows : List ℕ) → row ≡ height → take row rows ≡ map row_number (take row (rows_of width height bits))
    → take height rows ≡ map row_number (rows_of width height bits)
all_rows width height row bits rows is so_far = grind (arith, take_all, length-rows_of)

-- a row of numbers has a bit where its number has it
pub lit_in_rows : (character width height : ℕ) (rows bitmap : List ℕ) (column row : ℕ) → AreRows character width height rows bitmap
    → is_bit (get_or rows row 0) column ≡ lit_at (glyph_of_rows character width rows) column row
lit_in_rows character width height rows bitmap column row are = grind (arith, cases_lt, get_or, get_or-map, get_or_past, length-map, bit_at-zero, get_or-map-range_with_len, bit_at_above, length-map-range_with_len)

-- where there is a bit
pub lit_within : (character width : ℕ) (rows : List ℕ) (column row : ℕ) → lit_at (glyph_of_rows character width rows) column row ≡ true → column < width × row < length rows
lit_within character width rows column row on =
    elim (cases_lt row (length rows)) [
      | inl below ↦
          let number = get_or rows row 0 in
          let there : get_or (map (row_bits width) rows) row [] ≡ row_bits width number = get_or-map (row_bits width) rows row 0 [] below in
          elim (cases_lt column width) [
            | inl inside ↦ (inside, below)
            | inr beside ↦ absurd (
                let wrong : false ≡ true =
                sym (ap (λ bits. get_or bits column false) there ∙ get_or_past (row_bits width number) column false (omega (arith, length-map-range_with_len (is_bit number) 0 width))) ∙ on in cc)
          ]
      | inr past ↦ absurd (
          let none : get_or (map (row_bits width) rows) row [] ≡ [] = get_or_past (map (row_bits width) rows) row [] (omega (arith, length-map rows (row_bits width))) in
          let wrong : false ≡ true = sym (ap (λ bits. get_or bits column false) none ∙ get_or_past [] column false (omega arith)) ∙ on in cc)
    ]

-- The rows are again the bits of their numbers.
rows_again : (width : ℕ) (rows : List (List Bool)) → AllByRecursion (λ row. length row ≡ width) rows → map (row_bits width) (map row_number rows) ≡ rows
rows_again width [] widths = refl
rows_again width (row ∷ rows) widths =
    ap (λ first. first ∷ map (row_bits width) (map row_number rows)) (ap (λ w. row_bits w (row_number row)) (sym widths.0) ∙ bits_again row)
    ∙ ap (λ rest. row ∷ rest) (rows_again width rows widths.1)

numbers_within : (width : ℕ) (rows : List (List Bool)) → AllByRecursion (λ row. length row ≡ width) rows → (row : ℕ) → get_or (map row_number rows) row 0 < 2 ^ width
numbers_within width [] widths row = subst (λ n. n < 2 ^ width) (sym (get_or_past [] row 0 (omega arith))) (pow_pos width)
numbers_within width (first ∷ rows) widths zero = subst (λ w. row_number first < 2 ^ w) widths.0 (number_below first)
numbers_within width (first ∷ rows) widths (suc row) = numbers_within width rows widths.1 row

all_wide : (character width height : ℕ) (octets : List ℕ) → IsPicture character width height octets → AllByRecursion (λ row. length row ≡ width) (rows_of width height (bits_of octets))
all_wide character width height octets is = grind (arith, widths_of, length-bits_of)

-- The numbers of a picture's rows are that picture.
pub rows_are_picture : (character width height : ℕ) (octets rows : List ℕ) → IsPicture character width height octets → rows ≡ map row_number (rows_of width height (bits_of octets))
    → glyph_of_rows character width rows ≡ glyph_from character width height octets
rows_are_picture character width height octets rows is are =
    let cut = rows_of width height (bits_of octets) in
    let GlyphOf : List (List Bool) → GlyphModel = λ rows. record { character = character; width = width; rows = rows } in
    ap (λ numbers. GlyphOf (map (row_bits width) numbers)) are ∙ ap GlyphOf (rows_again width cut (all_wide character width height octets is))

pub rows_are_rows : (character width height : ℕ) (octets rows bitmap : List ℕ) → IsPicture character width height octets → rows ≡ map row_number (rows_of width height (bits_of octets))
    → bitmap ≡ octets_holding (take (width * height) (bits_of octets)) → AreRows character width height rows bitmap
rows_are_rows character width height octets rows bitmap is are holds =
    let bits = bits_of octets in
    let cut = rows_of width height bits in
    let count : length rows ≡ height = ap length are ∙ length-map cut row_number ∙ length-rows_of width height bits in
    let area : width * height ≡ height * width = omega arith in
    let within : (row : ℕ) → get_or rows row 0 < 2 ^ width = λ row. subst (λ numbers. get_or numbers row 0 < 2 ^ width) (sym are) (numbers_within width cut (all_wide character width height octets is) row) in
    let bitmap_is : bitmap ≡ bitmap_octets (glyph_of_rows character width rows) =
    holds ∙ ap (λ n. octets_holding (take n bits)) area ∙ ap octets_holding (sym (joined_rows width height bits))
    ∙ sym (ap bitmap_octets (rows_are_picture character width height octets rows is are)) in
    grind (arith, count, within, bitmap_is)
