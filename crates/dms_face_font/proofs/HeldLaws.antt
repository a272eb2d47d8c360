-- Bits that are held as a number.
use Rattle.std.proofs.Common.{◌≡◌, ℕ, zero, suc, ◌+◌, ◌-◌, ◌*◌, ◌/◌, ◌%◌, ◌^◌, ◌<◌, ◌≤◌, Bool, if◌then◌else◌, List, [], ◌∷◌, ◌++◌, length, map, get_or, take, drop, sym, ap, subst, ◌∙◌, arith, append_assoc, length-append, length-drop}
use Rattle.std.specs.List.{range_with_len}
use Rattle.std.proofs.Math.Nat.{pow-suc, mul-le-mul_right}
use Rattle.std.proofs.lemmas.Nat.Bits.{bit_at-zero}
use Rattle.std.proofs.lemmas.List.{take-append-le, drop-append-le, take_all}
use Rattle.std.proofs.lemmas.List.FromFn.{length-map-range_with_len}
use Rattle.dms_face_font.specs.Glyph.{is_bit, octet_bits, bits_of, row_bits, row_number}
use Rattle.dms_face_font.specs.declared.glyph.HeldBits.{HeldBits}
use Rattle.dms_face_font.specs.Held.{left_of}
use Rattle.dms_face_font.proofs.RowLaws.{length-bits_of}
use Rattle.dms_face_font.proofs.RowNumbers.{next_bits, bits_again, number_below}
use Rattle.dms_face_font.proofs.RowOctets.{number_append, number_drop, number_take}

pub length-row_bits : (count held : ℕ) → length (row_bits count held) ≡ count
length-row_bits count held = length-map-range_with_len (is_bit held) 0 count

first_bit : (held : ℕ) → (if is_bit held 0 then 1 else 0) ≡ held % 2
first_bit held = grind (arith, bit_at-zero)

-- bits that are held are those of the number
pub number_again : (count held : ℕ) → held < 2 ^ count → row_number (row_bits count held) ≡ held
number_again zero held small = omega arith
number_again (suc count) held small =
    let rest : row_number (row_bits count (held / 2)) ≡ held / 2 = number_again count (held / 2) (omega (arith, small, pow-suc 2 count)) in
    let more : row_number (map (is_bit held) (range_with_len (0 + 1) count)) ≡ held / 2 = ap row_number (next_bits held 0 count) ∙ rest in
    omega (arith, first_bit held, more)

-- ---- an octet more

with_octet : (count held digit octet : ℕ) → held < 2 ^ count → digit ≡ row_number (octet_bits octet)
    → held + digit * 2 ^ count ≡ row_number (row_bits count held ++ octet_bits octet)
with_octet count held digit octet small is =
    let front = row_bits count held in
    let back = octet_bits octet in
    let whole : row_number (front ++ back) ≡ held + 2 ^ count * digit =
    number_append front back ∙ ap (λ k. row_number front + 2 ^ k * row_number back) (length-row_bits count held)
    ∙ ap (λ n. n + 2 ^ count * row_number back) (number_again count held small) ∙ ap (λ d. held + 2 ^ count * d) (sym is) in
    let turned : digit * 2 ^ count ≡ 2 ^ count * digit = omega arith in
    ap (λ n. held + n) turned ∙ sym whole

length-more : (count held octet : ℕ) → length (row_bits count held ++ octet_bits octet) ≡ count + 8
length-more count held octet = omega (arith, length-append (row_bits count held) (octet_bits octet), length-row_bits count held)

pub octet_held : (count held digit octet total : ℕ) (rest : List Bool) → held < 2 ^ count → digit ≡ row_number (octet_bits octet) → total ≡ held + digit * 2 ^ count
    → row_bits (count + 8) total ++ rest ≡ row_bits count held ++ (octet_bits octet ++ rest)
octet_held count held digit octet total rest small is sum =
    let bits = row_bits count held ++ octet_bits octet in
    let number : total ≡ row_number bits = sum ∙ with_octet count held digit octet small is in
    let again : row_bits (count + 8) total ≡ bits =
    ap (row_bits (count + 8)) number ∙ ap (λ k. row_bits k (row_number bits)) (sym (length-more count held octet)) ∙ bits_again bits in
    ap (λ front. front ++ rest) again ∙ append_assoc (row_bits count held) (octet_bits octet) rest

pub octet_small : (count held digit octet total : ℕ) → held < 2 ^ count → digit ≡ row_number (octet_bits octet) → total ≡ held + digit * 2 ^ count → total < 2 ^ (count + 8)
octet_small count held digit octet total small is sum =
    let bits = row_bits count held ++ octet_bits octet in
    let number : total ≡ row_number bits = sum ∙ with_octet count held digit octet small is in
    subst (λ k. total < 2 ^ k) (length-more count held octet) (subst (λ n. n < 2 ^ length bits) (sym number) (number_below bits))

-- ---- the first bits

pub first_taken : (count held width : ℕ) (rest : List Bool) → held < 2 ^ count → width ≤ count → row_number (take width (row_bits count held ++ rest)) ≡ held % 2 ^ width
first_taken count held width rest small less =
    let bits = row_bits count held in
    let room : width ≤ length bits = omega (arith, less, length-row_bits count held) in
    ap row_number (take-append-le width bits rest room) ∙ number_take width bits room ∙ ap (λ n. n % 2 ^ width) (number_again count held small)

left_number : (count held width : ℕ) → held < 2 ^ count → row_number (drop width (row_bits count held)) ≡ held / 2 ^ width
left_number count held width small = number_drop width (row_bits count held) ∙ ap (λ n. n / 2 ^ width) (number_again count held small)

left_length : (count held width : ℕ) → length (drop width (row_bits count held)) ≡ count - width
left_length count held width = omega (arith, length-drop width (row_bits count held), length-row_bits count held)

pub first_dropped : (count held width : ℕ) (rest : List Bool) → held < 2 ^ count → width ≤ count
    → row_bits (count - width) (held / 2 ^ width) ++ rest ≡ drop width (row_bits count held ++ rest)
first_dropped count held width rest small less =
    let bits = row_bits count held in
    let room : width ≤ length bits = omega (arith, less, length-row_bits count held) in
    let again : row_bits (count - width) (held / 2 ^ width) ≡ drop width bits =
    ap (row_bits (count - width)) (sym (left_number count held width small)) ∙ ap (λ k. row_bits k (row_number (drop width bits))) (sym (left_length count held width)) ∙ bits_again (drop width bits) in
    ap (λ front. front ++ rest) again ∙ sym (drop-append-le width bits rest room)

pub left_small : (count held width : ℕ) → held < 2 ^ count → held / 2 ^ width < 2 ^ (count - width)
left_small count held width small =
    let bits = drop width (row_bits count held) in
    subst (λ k. held / 2 ^ width < 2 ^ k) (left_length count held width) (subst (λ n. n < 2 ^ length bits) (left_number count held width small) (number_below bits))

-- ---- octets behind those that are held

pub bits_of_first : (octets : List ℕ) (count : ℕ) → 1 ≤ length octets → count ≡ length octets - 1 → octet_bits (get_or octets 0 0) ++ bits_of (take count (drop 1 octets)) ≡ bits_of octets
bits_of_first [] count some is = absurd (omega arith)
bits_of_first (octet ∷ octets) count some is = ap (λ rest. octet_bits octet ++ bits_of rest) (take_all count octets (omega (arith, is)))

pub some_octet : (bits : HeldBits) (width : ℕ) → width ≤ length (left_of bits) → bits.count < width → 1 ≤ length bits.octets.now
some_octet bits width room more =
    omega (arith, room, more, length-append (row_bits bits.count bits.held) (bits_of bits.octets.now), length-row_bits bits.count bits.held, length-bits_of bits.octets.now)

pub digit_small : (octet : ℕ) → row_number (octet_bits octet) < 2 ^ 8
digit_small octet = number_below (octet_bits octet)

-- a row is within the bits that are left
pub row_inside : (octets : List ℕ) (left : List Bool) (row width height : ℕ) → left ≡ drop (row * width) (bits_of octets) → row < height → width * height ≤ 8 * length octets → width ≤ length left
row_inside octets left row width height is below room =
    let rows : (row + 1) * width ≤ height * width = mul-le-mul_right width (let e : row + 1 ≤ height = omega arith in e) in
    let area : width * height ≡ height * width = omega arith in
    let one_more : (row + 1) * width ≡ row * width + width = omega arith in
    omega (arith, ap length is, length-drop (row * width) (bits_of octets), length-bits_of octets, rows, area, one_more, room)
