-- Numbers of rows in parts, and the table of octets.
use Rattle.std.proofs.Common.{◌≡◌, ℕ, zero, suc, ◌+◌, ◌*◌, ◌/◌, ◌%◌, ◌^◌, ◌<◌, ◌≤◌, Bool, List, [], ◌∷◌, ◌++◌, length, length-take, map, take, drop, get_or, refl, sym, ap, ◌∙◌, arith}
use Rattle.std.specs.List.{range_with_len}
use Rattle.std.proofs.Math.Nat.{pow-succ', div-div-eq-div-mul, zero-div, add-mul-mod_self_left, mod-eq_of_lt, mul_assoc}
use Rattle.std.proofs.lemmas.List.{take-append-drop}
use Rattle.std.proofs.lemmas.List.FromFn.{get_or-map-range_with_len}
use Rattle.dms_face_font.specs.declared.glyph.TheConstants.{REVERSED}
use Rattle.dms_face_font.specs.Glyph.{octet_bits, row_number}
use Rattle.dms_face_font.proofs.RowNumbers.{number_small, half_is}

-- the whole table, computed
table_is : REVERSED ≡ map (λ octet. row_number (octet_bits octet)) (range_with_len 0 256)
table_is = refl

pub reversed_is : (octet index : ℕ) → octet < 256 → index ≡ octet → get_or REVERSED index 0 ≡ row_number (octet_bits octet)
reversed_is octet index small at =
    ap (λ table. get_or table index 0) table_is ∙ ap (λ n. get_or (map (λ octet. row_number (octet_bits octet)) (range_with_len 0 256)) n 0) at
    ∙ get_or-map-range_with_len (λ octet. row_number (octet_bits octet)) 0 256 octet octet 0 small (omega arith)

-- ---- numbers of rows in parts

pub number_append : (xs ys : List Bool) → row_number (xs ++ ys) ≡ row_number xs + 2 ^ length xs * row_number ys
number_append [] ys = omega arith
number_append (x ∷ xs) ys =
    let n = row_number ys in
    let twice : 2 ^ suc (length xs) * n ≡ 2 * (2 ^ length xs * n) = ap (λ p. p * n) (pow-succ' 2 (length xs)) ∙ mul_assoc 2 (2 ^ length xs) n in
    omega (arith, number_append xs ys, twice)

pub number_drop : (n : ℕ) (xs : List Bool) → row_number (drop n xs) ≡ row_number xs / 2 ^ n
number_drop zero xs = omega arith
number_drop (suc n) [] = sym (zero-div (2 ^ suc n))
number_drop (suc n) (x ∷ xs) =
    let whole = row_number (x ∷ xs) in
    number_drop n xs ∙ ap (λ k. k / 2 ^ n) (sym (half_is x (row_number xs))) ∙ div-div-eq-div-mul whole 2 (2 ^ n) ∙ ap (λ p. whole / p) (sym (pow-succ' 2 n))

pub number_take : (n : ℕ) (xs : List Bool) → n ≤ length xs → row_number (take n xs) ≡ row_number xs % 2 ^ n
number_take n xs room =
    let front = row_number (take n xs) in
    let back = row_number (drop n xs) in
    let long : length (take n xs) ≡ n = omega (arith, room, length-take n xs) in
    sym (ap (λ k. k % 2 ^ n) (ap row_number (sym (take-append-drop n xs)) ∙ number_append (take n xs) (drop n xs) ∙ ap (λ k. front + 2 ^ k * back) long)
    ∙ add-mul-mod_self_left front (2 ^ n) back ∙ mod-eq_of_lt (number_small xs n))
