-- A whole number's octets: how large the number is, and what reading it gives.
use Rattle.std.proofs.Common.{◌≡◌, ℕ, suc, ◌+◌, ◌-◌, ◌*◌, ◌^◌, ◌<◌, ◌≤◌, Bool, true, false, cond, ℤ, pos, negsuc, List, [], ◌∷◌, length, get_or, Option, Some, None, ap, ◌∙◌, arith, mul-le-mul, le-ltb, le-leb}
use Rattle.std.proofs.Math.Pow.{pow_mono}
use Rattle.std.proofs.lemmas.Nat.{pow-add}
use Rattle.std.proofs.lemmas.List.{length-map}
use Rattle.std.proofs.lemmas.Bool.{cases_lt, lt-leb}
use Rattle.std.proofs.lemmas.Bool.Decides.{nat_tests}
use Rattle.std.specs.Int.Digits.{number_from_digits, number_from_digits_after}
use Rattle.dms_wire_ber.specs.Integer.{is_shortest, inverted, signed_value, in_range, IsInteger}
use Rattle.dms_wire_ber.specs.Reading.{integer_value}

-- one octet more multiplies by 256
pow-cons : (d : ℕ) (ds : List ℕ) → 2 ^ (8 * length (d ∷ ds)) ≡ 2 ^ (8 * length ds) * 256
pow-cons d ds =
    let e : 8 * suc (length ds) ≡ 8 * length ds + 8 = omega arith in ap (λ k. 2 ^ k) e ∙ pow-add 2 (8 * length ds) 8

-- a number is no less than its first digits make it
pub after_ge_pow : (n : ℕ) (ds : List ℕ) → n * 2 ^ (8 * length ds) ≤ number_from_digits_after 256 n ds
after_ge_pow n [] = omega arith
after_ge_pow n (d ∷ ds) = let more = after_ge_pow (n * 256 + d) ds in rw (pow-cons d ds) (omega arith)

-- octets and inverted octets, each after a first part, add up to all ones
inverted_after : (m n : ℕ) (bs : List ℕ) → ((i : ℕ) → get_or bs i 0 < 256)
    → number_from_digits_after 256 m (inverted bs) + number_from_digits_after 256 n bs + 1 ≡ (m + n + 1) * 2 ^ (8 * length bs)
inverted_after m n [] h = omega arith
inverted_after m n (b ∷ bs) h =
    let first : m * 256 + (255 - b) + (n * 256 + b) + 1 ≡ (m + n + 1) * 256 = omega (arith, h 0) in
    inverted_after (m * 256 + (255 - b)) (n * 256 + b) bs (λ i. h (suc i)) ∙ ap (λ k. k * 2 ^ (8 * length bs)) first ∙ rw (pow-cons b bs) (omega arith)

-- inverted octets stand for what is missing to all ones
pub inverted_value : (bs : List ℕ) → ((i : ℕ) → get_or bs i 0 < 256)
    → number_from_digits 256 (inverted bs) + number_from_digits 256 bs + 1 ≡ 2 ^ (8 * length bs)
inverted_value bs h = omega (arith, inverted_after 0 0 bs h)

too_large : (n : ℕ) → 2 ^ 32 ≤ n → in_range (pos n) ≡ false
too_large n h = le-ltb n (2 ^ 32) h

too_small : (n : ℕ) → 2 ^ 31 ≤ n → in_range (negsuc n) ≡ false
too_small n h = le-ltb n (2 ^ 31) h

-- two first octets that are 128 at least make a number past the range
pub first_two : (b c : ℕ) (bs : List ℕ) → 4 ≤ length bs → 128 ≤ b * 256 + c → 2 ^ 32 ≤ number_from_digits 256 (b ∷ c ∷ bs)
first_two b c bs long first =
    let power : 2 ^ 32 ≤ 2 ^ (8 * length bs) = pow_mono {i = 32} {j = 8 * length bs} (omega arith) in
    let same : (0 * 256 + b) * 256 + c ≡ b * 256 + c = omega arith in
    rw same (omega (arith, after_ge_pow (b * 256 + c) bs, mul-le-mul first power))

-- the first two octets of a shortest number that is not negative
plain_first : (b c : ℕ) (bs : List ℕ) → is_shortest (b ∷ c ∷ bs) ≡ true → 128 ≤ b * 256 + c
plain_first b c bs short = grind (arith, nat_tests)

-- and of a negative one
inverted_first : (b c : ℕ) (bs : List ℕ) → 128 ≤ b → is_shortest (b ∷ c ∷ bs) ≡ true
    → 128 ≤ (255 - b) * 256 + (255 - c)
inverted_first b c bs high short = grind (arith, nat_tests)

-- a number of six octets or more is out of range, where it is the shortest
pub out_of_range : (bs : List ℕ) → is_shortest bs ≡ true → 6 ≤ length bs → in_range (signed_value bs) ≡ false
out_of_range bs short long = grind (arith, cases_lt, lt-leb, too_large, first_two, plain_first, length-map, inverted_first, le-leb, too_small)

pub short_integer : (bs : List ℕ) → is_shortest bs ≡ true → in_range (signed_value bs) ≡ true → length bs ≤ 5
short_integer bs short range = grind (arith, cases_lt, out_of_range)

some_of : (b : Bool) (o : Option ℤ) (z : ℤ) → cond b o None ≡ Some z → (b ≡ true) × (o ≡ Some z)
some_of b o z e = grind arith

pub integer_found : (bs : List ℕ) (z : ℤ) → integer_value bs ≡ Some z → IsInteger z bs
unfolding integer_value
integer_found bs z e = grind arith

pub integer_only : (bs : List ℕ) (z : ℤ) → IsInteger z bs → integer_value bs ≡ Some z
unfolding integer_value
integer_only bs z h = grind (arith, le-ltb, short_integer)
