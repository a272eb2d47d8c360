-- The shortest lengths and numbers, an octet at a time.
use Rattle.std.proofs.Common.{◌≡◌, ℕ, zero, suc, ◌+◌, ◌-◌, ◌*◌, ◌/◌, ◌%◌, ◌^◌, ◌<◌, ◌≤◌, cond, Bool, List, [], ◌∷◌, ◌++◌, length, get_or, refl, sym, ap, ◌∙◌, arith, inl, inr, length-append, append_assoc}
use Rattle.std.proofs.lemmas.List.{map-append, length-map}
use Rattle.std.proofs.Math.Nat.{pow-le-pow_right}
use Rattle.std.proofs.lemmas.Nat.{pow-add, pow_pos, leading_length}
use Rattle.std.proofs.lemmas.Bool.{cases_lt}
use Rattle.std.specs.Int.Digits.{digits_of}
use Rattle.std.specs.Int.Count.{count_leading_zeros}
use Rattle.std.proofs.lemmas.Int.Digits.{digits_of_step, length-digits_of-le}
use Rattle.std.proofs.lemmas.Bool.Decides.{nat_tests}
use Rattle.dms_wire_ber.specs.Integer.{inverted}
use Rattle.dms_wire_ber.specs.Length.{short_length}
use Rattle.dms_wire_ber.specs.Integer.{positive_octets}
use Rattle.dms_wire_ber.specs.Element.{element}

-- the digits are those of the number without its last digit, and that one
digits_more : (n : ℕ) → 0 < n → digits_of 256 n ≡ digits_of 256 (n / 256) ++ (n % 256) ∷ []
digits_more n some = digits_of_step 256 n (omega arith) some

pub digits_small : (n : ℕ) → 0 < n → n < 256 → digits_of 256 n ≡ n ∷ []
digits_small n some small = grind (arith, digits_more)

pub length-digits_more : (n : ℕ) → 0 < n → length (digits_of 256 n) ≡ length (digits_of 256 (n / 256)) + 1
length-digits_more n some = ap length (digits_more n some) ∙ length-append (digits_of 256 (n / 256)) ((n % 256) ∷ [])

pub length-digits_small : (n : ℕ) → 0 < n → n < 256 → length (digits_of 256 n) ≡ 1
length-digits_small n some small = ap length (digits_small n some small)

pub length-digits_le : (n : ℕ) → n < 2 ^ 64 → length (digits_of 256 n) ≤ 8
length-digits_le n h = length-digits_of-le 256 8 n (omega arith) h

-- the short form, and the long one of one octet and of two
pub short_length_small : (n : ℕ) → n < 128 → short_length n ≡ n ∷ []
short_length_small n small = grind (arith, nat_tests)

pub short_length_one : (n : ℕ) → 128 ≤ n → n < 256 → short_length n ≡ 129 ∷ (n ∷ [])
short_length_one n large small = grind (arith, digits_small)

pub short_length_two : (n : ℕ) → 256 ≤ n → n < 65536 → short_length n ≡ 130 ∷ ((n / 256) ∷ ((n % 256) ∷ []))
short_length_two n large small = grind (arith, digits_small, digits_more)

-- a number that fits seven bits is its octet
pub positive_small : (n : ℕ) → n < 128 → positive_octets n ≡ n ∷ []
positive_small n small = grind (arith, digits_small)

-- an octet more at the end keeps the first one
first_kept : (ds : List ℕ) (b : ℕ) → 0 < length ds → get_or (ds ++ b ∷ []) 0 128 ≡ get_or ds 0 128
first_kept (d ∷ ds) b some = refl
first_kept [] b some = absurd (omega arith)

cond_append : (t : Bool) (xs ys zs : List ℕ) → cond t xs ys ++ zs ≡ cond t (xs ++ zs) (ys ++ zs)
cond_append t xs ys zs = grind arith

digits_some : (n : ℕ) → 0 < n → 0 < length (digits_of 256 n)
digits_some n some = omega (arith, length-digits_more n some)

-- an octet more after digits
positive_long : (n : ℕ) → 0 < n / 256 → positive_octets n ≡ positive_octets (n / 256) ++ (n % 256) ∷ []
positive_long n some = grind (arith, digits_more, first_kept, digits_some, cond_append)

-- one octet that does not fit seven bits has a 0 before it
positive_short : (n : ℕ) → 128 ≤ n → n < 256 → positive_octets n ≡ 0 ∷ (n ∷ [])
positive_short n large small = grind (arith, digits_small)

-- an octet more
pub positive_more : (n : ℕ) → 128 ≤ n → positive_octets n ≡ positive_octets (n / 256) ++ (n % 256) ∷ []
positive_more n large = grind (arith, cases_lt, positive_short, positive_long)

pub length-positive_more : (n : ℕ) → 128 ≤ n → length (positive_octets n) ≡ length (positive_octets (n / 256)) + 1
length-positive_more n large = ap length (positive_more n large) ∙ length-append (positive_octets (n / 256)) ((n % 256) ∷ [])

pub length-positive_small : (n : ℕ) → n < 128 → length (positive_octets n) ≡ 1
length-positive_small n small = ap length (positive_small n small)

length-cond : (t : Bool) (xs ys : List ℕ) (n : ℕ) → length xs ≤ n → length ys ≤ n → length (cond t xs ys) ≤ n
length-cond t xs ys n p q = grind arith

-- a number of at most eight octets, and a 0 before them
pub length-positive_le : (n : ℕ) → n < 2 ^ 64 → length (positive_octets n) ≤ 9
length-positive_le n h = grind (arith, length-digits_le, length-cond)

pub inverted_more : (n : ℕ) → 128 ≤ n → inverted (positive_octets n) ≡ inverted (positive_octets (n / 256)) ++ (255 - n % 256) ∷ []
inverted_more n large = ap inverted (positive_more n large) ∙ map-append (λ b. 255 - b) (positive_octets (n / 256)) ((n % 256) ∷ [])

pub inverted_small : (n : ℕ) → n < 128 → inverted (positive_octets n) ≡ (255 - n) ∷ []
inverted_small n small = ap inverted (positive_small n small)

pub length-inverted : (n : ℕ) → length (inverted (positive_octets n)) ≡ length (positive_octets n)
length-inverted n = length-map (positive_octets n) (λ b. 255 - b)

pub element_length : (tag : ℕ) (content : List ℕ) → length (element tag content) ≡ suc (length (short_length (length content)) + length content)
unfolding element
element_length tag content = ap suc (length-append (short_length (length content)) content)

-- the head of an element and its content
pub element_put : (before : List ℕ) (tag size : ℕ) (content : List ℕ) → size ≡ length content → (before ++ tag ∷ short_length size) ++ content ≡ before ++ element tag content
unfolding element
element_put before tag size content e = rw e (append_assoc before (tag ∷ short_length (length content)) content)

-- a number of m bits, of which there are at most 8 * k + 7
bits_size : (k m n : ℕ) → m < 8 * k + 8 → n < 2 ^ m → 2 ^ m ≤ 2 * n + 1 → length (positive_octets n) ≡ m / 8 + 1
bits_size zero m n few below above = grind (arith, pow-le-pow_right, length-positive_small, cases_lt, pow-add, pow_pos, length-positive_more)
bits_size (suc k) m n few below above =
    elim (cases_lt m 8) [
      | inl small ↦
          let power : 2 ^ m ≤ 2 ^ 7 = pow-le-pow_right {n = 2} (omega arith) {i = m} {j = 7} (omega arith) in
          let one = length-positive_small n (omega arith) in
          omega arith
      | inr large ↦
          let split : (m - 8) + 8 ≡ m = omega arith in
          let power : 2 ^ m ≡ 2 ^ (m - 8) * 256 = ap (λ k. 2 ^ k) (sym split) ∙ pow-add 2 (m - 8) 8 in
          let some = pow_pos (m - 8) in
          let shorter = bits_size k (m - 8) (n / 256) (omega arith) (omega arith) (omega arith) in
          let longer = length-positive_more n (omega arith) in
          omega arith
    ]

-- how many octets a number takes
pub number_size : (n : ℕ) → n < 2 ^ 64 → length (positive_octets n) ≡ (64 - count_leading_zeros 64 n) / 8 + 1
number_size n fits =
    let bits = leading_length 64 n fits in
    let size = bits_size 8 bits.0 n (omega (arith, bits.1)) bits.2 bits.3 in
    omega (arith, size, bits.1)

-- the octets of numbers of two, three and four octets
positive_two : (n : ℕ) → 2 ^ 7 ≤ n → n < 2 ^ 15 → positive_octets n ≡ (n / 256 % 256) ∷ ((n % 256) ∷ [])
positive_two n large small = grind (arith, positive_more, positive_small)

positive_three : (n : ℕ) → 2 ^ 15 ≤ n → n < 2 ^ 23 → positive_octets n ≡ (n / 65536 % 256) ∷ ((n / 256 % 256) ∷ ((n % 256) ∷ []))
positive_three n large small = grind (arith, positive_more, positive_two)

positive_four : (n : ℕ) → 2 ^ 23 ≤ n → n < 2 ^ 31
    → positive_octets n ≡ (n / 16777216 % 256) ∷ ((n / 65536 % 256) ∷ ((n / 256 % 256) ∷ ((n % 256) ∷ [])))
positive_four n large small = grind (arith, positive_three, positive_more)

positive_one : (n : ℕ) → n < 2 ^ 7 → positive_octets n ≡ (n % 256) ∷ []
positive_one n small = let all : n ≡ n % 256 = omega arith in positive_small n (omega arith) ∙ ap (λ b. b ∷ []) all

-- and their elements
pub natural_one : (tag n : ℕ) → n < 128 → element tag (positive_octets n) ≡ tag ∷ (1 ∷ (n ∷ []))
unfolding element
natural_one tag n small = rw (positive_small n small) refl

pub natural_two : (tag n : ℕ) → 2 ^ 7 ≤ n → n < 2 ^ 15 → element tag (positive_octets n) ≡ tag ∷ (2 ∷ ((n / 256 % 256) ∷ ((n % 256) ∷ [])))
unfolding element
natural_two tag n large small = rw (positive_two n large small) refl

pub natural_three : (tag n : ℕ) → 2 ^ 15 ≤ n → n < 2 ^ 23
    → element tag (positive_octets n) ≡ tag ∷ (3 ∷ ((n / 65536 % 256) ∷ ((n / 256 % 256) ∷ ((n % 256) ∷ []))))
unfolding element
natural_three tag n large small = rw (positive_three n large small) refl

pub natural_four : (tag n : ℕ) → 2 ^ 23 ≤ n → n < 2 ^ 31
    → element tag (positive_octets n) ≡ tag ∷ (4 ∷ ((n / 16777216 % 256) ∷ ((n / 65536 % 256) ∷ ((n / 256 % 256) ∷ ((n % 256) ∷ [])))))
unfolding element
natural_four tag n large small = rw (positive_four n large small) refl

pub negative_one : (n : ℕ) → n < 2 ^ 7 → element 2 (inverted (positive_octets n)) ≡ 2 ∷ (1 ∷ ((255 - n % 256) ∷ []))
unfolding element
negative_one n small = rw (positive_one n small) refl

pub negative_two : (n : ℕ) → 2 ^ 7 ≤ n → n < 2 ^ 15
    → element 2 (inverted (positive_octets n)) ≡ 2 ∷ (2 ∷ ((255 - n / 256 % 256) ∷ ((255 - n % 256) ∷ [])))
unfolding element
negative_two n large small = rw (positive_two n large small) refl

pub negative_three : (n : ℕ) → 2 ^ 15 ≤ n → n < 2 ^ 23
    → element 2 (inverted (positive_octets n)) ≡ 2 ∷ (3 ∷ ((255 - n / 65536 % 256) ∷ ((255 - n / 256 % 256) ∷ ((255 - n % 256) ∷ []))))
unfolding element
negative_three n large small = rw (positive_three n large small) refl

pub negative_four : (n : ℕ) → 2 ^ 23 ≤ n → n < 2 ^ 31
    → element 2 (inverted (positive_octets n))
    ≡ 2 ∷ (4 ∷ ((255 - n / 16777216 % 256) ∷ ((255 - n / 65536 % 256) ∷ ((255 - n / 256 % 256) ∷ ((255 - n % 256) ∷ [])))))
unfolding element
negative_four n large small = rw (positive_four n large small) refl

-- how many octets they take
pub natural_one_size : (tag n : ℕ) → n < 128 → length (element tag (positive_octets n)) ≡ 3
natural_one_size tag n small = ap length (natural_one tag n small)

pub natural_two_size : (tag n : ℕ) → 2 ^ 7 ≤ n → n < 2 ^ 15 → length (element tag (positive_octets n)) ≡ 4
natural_two_size tag n large small = ap length (natural_two tag n large small)

pub natural_three_size : (tag n : ℕ) → 2 ^ 15 ≤ n → n < 2 ^ 23 → length (element tag (positive_octets n)) ≡ 5
natural_three_size tag n large small = ap length (natural_three tag n large small)

pub natural_four_size : (tag n : ℕ) → 2 ^ 23 ≤ n → n < 2 ^ 31 → length (element tag (positive_octets n)) ≡ 6
natural_four_size tag n large small = ap length (natural_four tag n large small)

pub negative_one_size : (n : ℕ) → n < 2 ^ 7 → length (element 2 (inverted (positive_octets n))) ≡ 3
negative_one_size n small = ap length (negative_one n small)

pub negative_two_size : (n : ℕ) → 2 ^ 7 ≤ n → n < 2 ^ 15 → length (element 2 (inverted (positive_octets n))) ≡ 4
negative_two_size n large small = ap length (negative_two n large small)

pub negative_three_size : (n : ℕ) → 2 ^ 15 ≤ n → n < 2 ^ 23 → length (element 2 (inverted (positive_octets n))) ≡ 5
negative_three_size n large small = ap length (negative_three n large small)

pub negative_four_size : (n : ℕ) → 2 ^ 23 ≤ n → n < 2 ^ 31 → length (element 2 (inverted (positive_octets n))) ≡ 6
negative_four_size n large small = ap length (negative_four n large small)

-- a number written with its tag and its length
pub ruleset natural_elements = (natural_one, natural_two, natural_three, natural_four, natural_one_size, natural_two_size, natural_three_size, natural_four_size)

pub ruleset negative_elements = (negative_one, negative_two, negative_three, negative_four, negative_one_size, negative_two_size, negative_three_size, negative_four_size)

-- how many octets a length takes
pub length_one : (n : ℕ) → n < 128 → length (short_length n) ≡ 1
length_one n small = ap length (short_length_small n small)

pub length_two : (n : ℕ) → 128 ≤ n → n < 256 → length (short_length n) ≡ 2
length_two n large small = ap length (short_length_one n large small)

pub length_three : (n : ℕ) → 256 ≤ n → n < 65536 → length (short_length n) ≡ 3
length_three n large small = ap length (short_length_two n large small)

pub length_more : (n : ℕ) → 128 ≤ n → length (short_length n) ≡ 1 + length (digits_of 256 n)
length_more n large = grind (arith, nat_tests)

pub ruleset length_sizes = (length_one, length_two, length_three, length_more)

-- how many digits a number has
pub ruleset digit_sizes = (length-digits_more, length-digits_small)

-- how many octets elements take
pub ruleset sizes = (element_length, length-append)

-- a number written, one octet after the other
pub ruleset number_steps = (positive_small, positive_more, inverted_small, inverted_more, length-inverted, length-append, append_assoc)

-- a length written
pub ruleset length_steps = (short_length_small, short_length_one, short_length_two, length_one, length_two, length_three, append_assoc)

-- the same, each octet inverted
pub ruleset inverted_steps = (length-inverted, length-append, append_assoc)

-- octets written, one part after the other
pub ruleset element_steps = (length-append, append_assoc)

-- an element written around others
pub ruleset nested_steps = (element_put, element_length, length-append)
