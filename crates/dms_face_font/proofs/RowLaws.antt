-- The rows that octets are, and the octets that rows are.
use Rattle.std.proofs.Common.{◌≡◌, ℕ, zero, suc, ◌+◌, ◌*◌, ◌/◌, ◌≤◌, Bool, true, List, [], ◌∷◌, ◌++◌, length, take, drop, refl, sym, ap, ◌∙◌, arith, append_assoc, length-append, length-take, length-drop}
use Rattle.std.specs.List.{AllByRecursion}
use Rattle.std.proofs.Math.Seq.{take-add}
use Rattle.std.proofs.lemmas.Bool.{eqb-true, eq-eqb}
use Rattle.std.proofs.lemmas.List.{take-append-drop, drop-drop, take_at, drop_at}
use Rattle.dms_face_font.specs.Glyph.{octet_bits, bits_of, joined, rows_of, SpellsRows}
use Rattle.dms_face_font.specs.FontReading.{are_enough}
use Rattle.dms_face_font.proofs.Pictures.{length-rows_of}

pub length-bits_of : (octets : List ℕ) → length (bits_of octets) ≡ 8 * length octets
length-bits_of [] = refl
length-bits_of (octet ∷ octets) = omega (arith, length-append (octet_bits octet) (bits_of octets), length-bits_of octets)

-- bits are their rows, and what is after them
rows_and_rest : (width height : ℕ) (bits : List Bool) → bits ≡ joined (rows_of width height bits) ++ drop (height * width) bits
rows_and_rest width zero bits = ap (λ k. drop k bits) (let e : 0 ≡ 0 * width = omega arith in e)
rows_and_rest width (suc height) bits = grind (arith, drop-drop, take-append-drop, append_assoc, rows_and_rest width height (drop width bits))

pub joined_rows : (width height : ℕ) (bits : List Bool) → joined (rows_of width height bits) ≡ take (height * width) bits
joined_rows width zero bits = ap (λ k. take k bits) (let e : 0 ≡ 0 * width = omega arith in e)
joined_rows width (suc height) bits =
    ap (λ rest. take width bits ++ rest) (joined_rows width height (drop width bits)) ∙ sym (take-add width (height * width) bits)
    ∙ ap (λ k. take k bits) (let e : width + height * width ≡ suc height * width = omega arith in e)

pub widths_of : (width height : ℕ) (bits : List Bool) → height * width ≤ length bits → AllByRecursion (λ row. length row ≡ width) (rows_of width height bits)
widths_of width zero bits room = tt
widths_of width (suc height) bits room = grind (arith, length-take, length-drop, widths_of width height (drop width bits) (omega (arith, length-drop width bits)))

pub rows_found : (width height : ℕ) (octets : List ℕ) → are_enough width height octets ≡ true → SpellsRows width height (rows_of width height (bits_of octets)) octets
rows_found width height octets enough =
    let count : length octets ≡ (width * height + 7) / 8 = eqb-true _ _ enough in
    let bits : length (bits_of octets) ≡ 8 * length octets = length-bits_of octets in
    let same : height * width ≡ width * height = omega arith in
    record {
      padding = drop (height * width) (bits_of octets);
      bits = rows_and_rest width height (bits_of octets);
      short = omega (arith, length-drop (height * width) (bits_of octets));
      height_is = length-rows_of width height (bits_of octets);
      width_is = widths_of width height (bits_of octets) (omega arith);
    }

length-joined : (width : ℕ) (rows : List (List Bool)) → AllByRecursion (λ row. length row ≡ width) rows → length (joined rows) ≡ length rows * width
length-joined width [] widths = omega arith
length-joined width (row ∷ rows) widths = grind (arith, length-append, length-joined width rows widths.1)

-- rows of one width are cut again as they were
rows_again : (width : ℕ) (rows : List (List Bool)) (padding : List Bool) → AllByRecursion (λ row. length row ≡ width) rows
    → rows_of width (length rows) (joined rows ++ padding) ≡ rows
rows_again width [] padding widths = refl
rows_again width (row ∷ rows) padding widths =
    let parts : (row ++ joined rows) ++ padding ≡ row ++ (joined rows ++ padding) = append_assoc row (joined rows) padding in
    let first : take width ((row ++ joined rows) ++ padding) ≡ row = ap (take width) parts ∙ take_at row (joined rows ++ padding) width widths.0 in
    let rest : drop width ((row ++ joined rows) ++ padding) ≡ joined rows ++ padding = ap (drop width) parts ∙ drop_at row (joined rows ++ padding) width widths.0 in
    ap (λ head. head ∷ rows_of width (length rows) (drop width ((row ++ joined rows) ++ padding))) first
    ∙ ap (λ bits. row ∷ rows_of width (length rows) bits) rest
    ∙ ap (λ more. row ∷ more) (rows_again width rows padding widths.1)

pub rows_only : (width height : ℕ) (rows : List (List Bool)) (octets : List ℕ) → SpellsRows width height rows octets
    → (are_enough width height octets ≡ true) × (rows ≡ rows_of width height (bits_of octets))
rows_only width height rows octets spelled =
    let size : length (joined rows) ≡ length rows * width = length-joined width rows spelled.width_is in
    let bits : length (bits_of octets) ≡ length (joined rows) + length spelled.padding = ap length spelled.bits ∙ length-append (joined rows) spelled.padding in
    let area : length rows * width ≡ width * height = ap (λ h. h * width) spelled.height_is ∙ (let e : height * width ≡ width * height = omega arith in e) in
    let short = spelled.short in (
      eq-eqb _ _ (omega (arith, length-bits_of octets)),
      sym (rows_again width rows spelled.padding spelled.width_is)
          ∙ ap (λ h. rows_of width h (joined rows ++ spelled.padding)) spelled.height_is
          ∙ ap (rows_of width height) (sym spelled.bits),
    )
