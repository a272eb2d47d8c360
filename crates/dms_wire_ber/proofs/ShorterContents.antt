-- Which contents are no shorter than the canonical ones: of lengths, numbers and names.
use Rattle.std.proofs.Common.{◌≡◌, ℕ, ℤ, pos, negsuc, suc, ◌+◌, ◌*◌, ◌^◌, ◌<◌, ◌≤◌, Bool, cond, nat_lt, nat_le, List, [], ◌∷◌, length, ap, ⊎_elim, arith, lt-ltb, le-ltb, leb-true, leb-false, le_trans}
use Rattle.std.specs.Int.Digits.{digits_of, number_from_digits, AllBelowBase}
use Rattle.std.proofs.lemmas.Bool.{cond-true, cond-false, cases_lt, cases_eq}
use Rattle.std.proofs.lemmas.List.{length-map}
use Rattle.std.proofs.lemmas.Int.Digits.{number_lt, number_digits_of, all_below_base_digits_of, length-digits_of-le}
use Rattle.dms_wire_ber.specs.Length.{IsLength}
use Rattle.dms_wire_ber.specs.Integer.{IsInteger, inverted}
use Rattle.dms_wire_ber.specs.ObjectIdentifier.{IsName}
use Rattle.dms_wire_ber.specs.Length.{short_length}
use Rattle.dms_wire_ber.specs.Integer.{positive_octets, integer_octets}
use Rattle.dms_wire_ber.specs.ObjectIdentifier.{name_octets}
use Rattle.dms_wire_ber.proofs.Unique.{base256, digits_number, name_is}
use Rattle.dms_wire_ber.proofs.BelowBase.{below_inverted}

-- the octets are no longer than any that the relation takes
pub record NoLonger (short : List ℕ) (Spelled : List ℕ → Type 0) : Type 0 where
  pub than : (bytes : List ℕ) → AllBelowBase 256 bytes → Spelled bytes → length short ≤ length bytes

digits_monotone : (m n : ℕ) → m ≤ n → length (digits_of 256 m) ≤ length (digits_of 256 n)
digits_monotone m n le =
    let bound : n < 256 ^ length (digits_of 256 n) = rw (number_digits_of 256 n base256) at (number_lt 256 (digits_of 256 n) (all_below_base_digits_of 256 n base256)) in
    length-digits_of-le 256 (length (digits_of 256 n)) m base256 (omega arith)

-- digits, also with zeros before them, are no fewer than those of their number
digits_fit : (ds : List ℕ) → AllBelowBase 256 ds → length (digits_of 256 (number_from_digits 256 ds)) ≤ length ds
digits_fit ds below = length-digits_of-le 256 (length ds) (number_from_digits 256 ds) base256 (number_lt 256 ds below)

short_form : (n : ℕ) → n < 128 → length (short_length n) ≡ 1
short_form n small = ap length (cond-true (nat_lt n 128) (n ∷ []) ((128 + length (digits_of 256 n)) ∷ digits_of 256 n) (lt-ltb n 128 small))

long_form : (n : ℕ) → 128 ≤ n → length (short_length n) ≡ suc (length (digits_of 256 n))
long_form n large = ap length (cond-false (nat_lt n 128) (n ∷ []) ((128 + length (digits_of 256 n)) ∷ digits_of 256 n) (le-ltb n 128 large))

short_length_at_most : (n k : ℕ) → length (digits_of 256 n) ≤ k → length (short_length n) ≤ suc k
short_length_at_most n k few = grind arith

pub short_length_monotone : (m n : ℕ) → m ≤ n → length (short_length m) ≤ length (short_length n)
short_length_monotone m n le = grind (arith, short_form, long_form, short_length_at_most, digits_monotone, cases_lt)

pub length_no_longer : (len : List ℕ) (n : ℕ) → AllBelowBase 256 len → IsLength len n → length (short_length n) ≤ length len
length_no_longer len n below form = grind (arith, short_form, short_length_at_most, digits_fit)

-- at most one octet stands before the digits
positive_at_most : (n : ℕ) → length (positive_octets n) ≤ suc (length (digits_of 256 n))
positive_at_most n = grind arith

-- no octet stands before digits of which the first is below 128
pub positive_whole : (n d : ℕ) (ds : List ℕ) → digits_of 256 n ≡ d ∷ ds → d < 128 → positive_octets n ≡ d ∷ ds
positive_whole n d ds e free = grind arith

-- leading zeros only make a number's octets more
positive_no_longer : (b : ℕ) (bs : List ℕ) → AllBelowBase 256 (b ∷ bs) → b < 128 → length (positive_octets (number_from_digits 256 (b ∷ bs))) ≤ length (b ∷ bs)
positive_no_longer b bs below free =
    ⊎_elim
    (λ e.
    let rest : number_from_digits 256 (b ∷ bs) ≡ number_from_digits 256 bs = ap (λ d. number_from_digits 256 (d ∷ bs)) e in
    rw rest (le_trans (positive_at_most (number_from_digits 256 bs)) (omega (arith, digits_fit bs below.1))))
    (λ some. rw (positive_whole (number_from_digits 256 (b ∷ bs)) b bs (digits_number 256 base256 (b ∷ bs) below some) free) (omega arith))
    (cases_eq b 0)

-- either sign: negative is the answer of its test
signed_no_longer : (b : ℕ) (bs : List ℕ) (negative : Bool) → nat_le 128 b ≡ negative → AllBelowBase 256 (b ∷ bs)
    → length (integer_octets (cond negative (negsuc (number_from_digits 256 (inverted (b ∷ bs)))) (pos (number_from_digits 256 (b ∷ bs))))) ≤ length (b ∷ bs)
unfolding integer_octets
signed_no_longer b bs negative sign below = grind (arith, leb-true, positive_no_longer, below_inverted, length-map, leb-false)

integer_length : (z : ℤ) (bytes : List ℕ) → AllBelowBase 256 bytes → IsInteger z bytes → length (integer_octets z) ≤ length bytes
integer_length z bytes below i = grind (arith, signed_no_longer, nat_le)

pub integer_no_longer : (z : ℤ) → NoLonger (integer_octets z) (IsInteger z)
integer_no_longer z = record { than = integer_length z }

-- a number's content is not empty
pub some_octet : (z : ℤ) (bytes : List ℕ) → IsInteger z bytes → 1 ≤ length bytes
some_octet z bytes i = grind arith

one_octet : (n : ℕ) → n < 128 → length (integer_octets (pos n)) ≤ 1
unfolding integer_octets
one_octet n small = let whole : 0 * 256 + n ≡ n = omega arith in rw whole at (positive_no_longer n [] (omega arith, tt) small)

-- a number below 128 is one octet, and no number has none
pub small_no_longer : (n : ℕ) (z : ℤ) → n < 128 → NoLonger (integer_octets (pos n)) (IsInteger z)
small_no_longer n z small = record { than = λ bytes below i. le_trans (one_octet n small) (some_octet z bytes i) }

pub name_no_longer : (numbers : List ℕ) → NoLonger (name_octets numbers) (IsName numbers)
name_no_longer numbers = record { than = λ bytes below name. rw (name_is numbers bytes name) (omega arith) }
