-- Numbers as lists of bits, and sums of such lists.
use Rattle.std.proofs.Common.{◌≡◌, ℕ, zero, suc, ◌+◌, ◌*◌, ◌/◌, ◌%◌, ◌^◌, ◌<◌, ◌≤◌, ◌⊎◌, ◌==◌, Bool, true, false, not, if◌then◌else◌, List, [], ◌∷◌, ◌++◌, length, map, take, drop, replicate, bit_xor, refl, ap, sym, ◌∙◌, arith, add-one}
use Rattle.std.proofs.Math.Nat.{pow-suc}
use Rattle.std.proofs.Math.Seq.{drop-nil}
use Rattle.std.proofs.lemmas.Nat.{xor_shr, xor_mod, mod-pow-add}
use Rattle.dms_codes.specs.Checksum.{low_bits, number, sum_of_bits, add}

sum-false : (b : Bool) → sum_of_bits b false ≡ b
sum-false b = grind arith

sum_assoc : (a b c : Bool) → sum_of_bits a (sum_of_bits b c) ≡ sum_of_bits (sum_of_bits a b) c
sum_assoc a b c = grind arith

below_two : (n : ℕ) → n < 2 → (n ≡ 0) ⊎ (n ≡ 1)
below_two n h = grind arith

lowest : (n : ℕ) → (n % 2 ≡ 0) ⊎ (n % 2 ≡ 1)
lowest n = below_two (n % 2) (omega arith)

-- of two bits, as numbers
digit-xor : (x y : ℕ) → (x ≡ 0) ⊎ (x ≡ 1) → (y ≡ 0) ⊎ (y ≡ 1) → (bit_xor x y == 1) ≡ sum_of_bits (x == 1) (y == 1)
digit-xor x y p q = grind arith

-- the lowest bits of two numbers are added
low_of_xor : (a b : ℕ) → (bit_xor a b % 2 == 1) ≡ sum_of_bits (a % 2 == 1) (b % 2 == 1)
low_of_xor a b = ap (λ n. n == 1) (xor_mod a b 1) ∙ digit-xor (a % 2) (b % 2) (lowest a) (lowest b)

-- the bits of a sum without carries are the sums of the bits
pub low_bits-xor : (count a b : ℕ) → low_bits count (bit_xor a b) ≡ add (low_bits count a) (low_bits count b)
low_bits-xor zero a b = refl
low_bits-xor (suc count) a b =
    ap (λ bit. bit ∷ low_bits count (bit_xor a b / 2)) (low_of_xor a b)
    ∙ ap (λ bits. sum_of_bits (a % 2 == 1) (b % 2 == 1) ∷ bits)
    (ap (low_bits count) (xor_shr a b 1) ∙ low_bits-xor count (a / 2) (b / 2))

-- only the low bits of the number count
pub low_bits-mod : (count n : ℕ) → low_bits count (n % 2 ^ count) ≡ low_bits count n
low_bits-mod zero n = refl
low_bits-mod (suc count) n =
    let parts : n % 2 ^ suc count ≡ (n / 2 % 2 ^ count) * 2 + n % 2 = rw add-one at (mod-pow-add n count 1) in
    let low : n % 2 ^ suc count % 2 ≡ n % 2 = omega arith in
    let half : n % 2 ^ suc count / 2 ≡ n / 2 % 2 ^ count = omega arith in
    ap (λ m. (m == 1) ∷ low_bits count (n % 2 ^ suc count / 2)) low
    ∙ ap (λ bits. (n % 2 == 1) ∷ bits) (ap (low_bits count) half ∙ low_bits-mod count (n / 2))

-- the bits of a list's number
pub low_bits-number : (bits : List Bool) → low_bits (length bits) (number bits) ≡ bits
low_bits-number [] = refl
low_bits-number (true ∷ bits) = grind (arith, low_bits-number bits)
low_bits-number (false ∷ bits) = grind (arith, low_bits-number bits)

-- one bit more, after those of which it is known
inverted_step : (count n x : ℕ) → (n % 2 ≡ 0) ⊎ (n % 2 ≡ 1) → x + n / 2 + 1 ≡ 2 ^ count → (if not (n % 2 == 1) then 1 else 0) + x * 2 + n + 1 ≡ 2 ^ suc count
inverted_step count n x p h = grind arith

-- a number and its bits inverted make all ones
pub number-map-not : (count n : ℕ) → n < 2 ^ count → number (map not (low_bits count n)) + n + 1 ≡ 2 ^ count
number-map-not zero n h = omega arith
number-map-not (suc count) n h =
    let half : n / 2 < 2 ^ count = omega (arith, pow-suc 2 count) in
    inverted_step count n (number (map not (low_bits count (n / 2)))) (lowest n) (number-map-not count (n / 2) half)

-- ---- sums

pub length-add : (terms bits : List Bool) → length (add terms bits) ≡ length bits
length-add [] bits = refl
length-add (t ∷ terms) [] = refl
length-add (t ∷ terms) (b ∷ bits) = ap suc (length-add terms bits)

pub add_zeros : (count : ℕ) (bits : List Bool) → add (low_bits count 0) bits ≡ bits
add_zeros zero bits = refl
add_zeros (suc count) [] = refl
add_zeros (suc count) (b ∷ bits) = ap (λ rest. b ∷ rest) (add_zeros count bits)

pub add-zeros : (count n : ℕ) → add (low_bits count n) (low_bits count 0) ≡ low_bits count n
add-zeros zero n = refl
add-zeros (suc count) n = grind (arith, sum-false, add-zeros count (n / 2))

pub add_assoc_bits : (a b c : List Bool) → length a ≤ length b → add a (add b c) ≡ add (add a b) c
add_assoc_bits [] b c h = refl
add_assoc_bits (x ∷ a) [] c h = absurd (omega arith)
add_assoc_bits (x ∷ a) (y ∷ b) [] h = refl
add_assoc_bits (x ∷ a) (y ∷ b) (z ∷ c) h =
    let shorter : length a ≤ length b = omega arith in
    ap (λ bit. bit ∷ add a (add b c)) (sum_assoc x y z) ∙ ap (λ rest. sum_of_bits (sum_of_bits x y) z ∷ rest) (add_assoc_bits a b c shorter)

-- what is added to one list and another after it
pub add-append : (terms bits more : List Bool) → add terms (bits ++ more) ≡ add terms bits ++ add (drop (length bits) terms) more
add-append [] bits more = ap (λ terms. bits ++ add terms more) (sym (drop-nil (length bits)))
add-append (t ∷ terms) [] more = refl
add-append (t ∷ terms) (b ∷ bits) more = ap (λ rest. sum_of_bits t b ∷ rest) (add-append terms bits more)

-- terms filled up with zeros add no more than the terms
pub add_padded : (terms : List Bool) (count : ℕ) (bits : List Bool) → length terms ≤ count → add (add terms (low_bits count 0)) bits ≡ add terms bits
add_padded [] count bits h = add_zeros count bits
add_padded (t ∷ terms) zero bits h = absurd (omega arith)
add_padded (t ∷ terms) (suc count) [] h = refl
add_padded (t ∷ terms) (suc count) (b ∷ bits) h =
    let shorter : length terms ≤ count = omega arith in
    ap (λ bit. sum_of_bits bit b ∷ add (add terms (low_bits count 0)) bits) (sum-false t)
    ∙ ap (λ rest. sum_of_bits t b ∷ rest) (add_padded terms count bits shorter)

-- zeros after the terms add nothing
pub add_zeros_after : (terms : List Bool) (count : ℕ) (bits : List Bool) → add (terms ++ low_bits count 0) bits ≡ add terms bits
add_zeros_after [] count bits = add_zeros count bits
add_zeros_after (t ∷ terms) count [] = refl
add_zeros_after (t ∷ terms) count (b ∷ bits) = ap (λ rest. sum_of_bits t b ∷ rest) (add_zeros_after terms count bits)

-- inverting the front is adding ones to it
pub inverted_front : (count : ℕ) (bits : List Bool) → map not (take count bits) ++ drop count bits ≡ add (replicate count true) bits
inverted_front zero bits = refl
inverted_front (suc count) [] = refl
inverted_front (suc count) (b ∷ bits) = ap (λ rest. not b ∷ rest) (inverted_front count bits)
