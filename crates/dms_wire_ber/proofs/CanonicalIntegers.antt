-- The shortest octets of a number in range are its content.
use Rattle.std.specs.Prelude.{IsTrue, if◌then◌else◌, slice_index_or, nat_lt}
use Rattle.std.proofs.Common.{◌≡◌, ℕ, ℤ, pos, negsuc, ◌<◌, true, false, List, [], ◌∷◌, length, get_or, refl, sym, ap, arith, ap₂}
use Rattle.std.specs.Int.Digits.{number_from_digits, digits_of, AllBelowBase}
use Rattle.std.proofs.lemmas.Int.Digits.{number_digits_of, all_below_base_digits_of, first_digits_of}
use Rattle.dms_wire_ber.specs.Integer.{is_shortest, is_negative, inverted, in_range, IsInteger}
use Rattle.dms_wire_ber.specs.Integer.{positive_octets, integer_octets}
use Rattle.dms_wire_ber.proofs.BelowBase.{below_inverted}

-- the shortest octets of a number from 0 on: the first bit is 0
record IsPlain (n : ℕ) (octets : List ℕ) : Type 0 where
  shortest : is_shortest octets ≡ true
  plain : is_negative octets ≡ false
  value : number_from_digits 256 octets ≡ n
  below : AllBelowBase 256 octets

-- a 0 before digits of which the first is 128 or more, or of which there is none
abbrev padded : List ℕ → List ℕ
padded ds = (if nat_lt (slice_index_or ds 0 128) 128 then ds else 0 ∷ ds)

padded_plain : (ds : List ℕ) → (0 < length ds → 0 < get_or ds 0 0) → AllBelowBase 256 ds → IsPlain (number_from_digits 256 ds) (padded ds)
padded_plain ds first below = grind arith

first_positive : (n : ℕ) → 0 < length (digits_of 256 n) → 0 < get_or (digits_of 256 n) 0 0
first_positive n some = grind (arith, first_digits_of)

positive_plain : (n : ℕ) → IsPlain n (positive_octets n)
positive_plain n = grind (arith, number_digits_of, padded_plain, first_positive, all_below_base_digits_of)

-- inverted twice
pub inverted_back : (octets : List ℕ) → AllBelowBase 256 octets → inverted (inverted octets) ≡ octets
inverted_back [] below = refl
inverted_back (b ∷ bs) below = ap₂ (λ c cs. c ∷ cs) (omega (arith, below.0)) (inverted_back bs below.1)

shortest_inverted : (octets : List ℕ) → is_shortest octets ≡ true → is_negative octets ≡ false → is_shortest (inverted octets) ≡ true
shortest_inverted octets short plain = grind arith

negative_inverted : (octets : List ℕ) → is_shortest octets ≡ true → is_negative octets ≡ false → is_negative (inverted octets) ≡ true
negative_inverted octets short plain = grind arith

positive_spelled : (n : ℕ) (octets : List ℕ) → IsPlain n octets → IsTrue (in_range (pos n)) → IsInteger (pos n) octets
positive_spelled n octets is range = record { shortest = is.shortest; range = range; value = rw is.plain (ap pos (sym is.value)) }

negative_spelled : (n : ℕ) (octets : List ℕ) → IsPlain n octets → IsTrue (in_range (negsuc n)) → IsInteger (negsuc n) (inverted octets)
negative_spelled n octets is range = grind (arith, shortest_inverted, negative_inverted, inverted_back)

pub integer_spelled : (z : ℤ) → IsTrue (in_range z) → IsInteger z (integer_octets z)
unfolding integer_octets
integer_spelled (pos n) range = positive_spelled n (positive_octets n) (positive_plain n) range
integer_spelled (negsuc n) range = negative_spelled n (positive_octets n) (positive_plain n) range

pub integer_below : (z : ℤ) → AllBelowBase 256 (integer_octets z)
unfolding integer_octets
integer_below (pos n) = (positive_plain n).below
integer_below (negsuc n) = below_inverted (positive_octets n)
