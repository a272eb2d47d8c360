-- The octets of a name in the limits are its content.
use Rattle.std.proofs.Common.{◌≡◌, ◌≢◌, ℕ, zero, suc, ◌+◌, ◌*◌, ◌/◌, ◌%◌, ◌^◌, ◌<◌, ◌≤◌, List, [], ◌∷◌, ◌++◌, map, get_or, refl, ◌∙◌, arith, flat_map}
use Rattle.std.proofs.lemmas.Bool.Decides.{nat_tests}
use Rattle.std.specs.Int.Digits.{number_from_digits, digits_of, AllBelowBase}
use Rattle.std.proofs.lemmas.Int.Digits.{number_digits_of, all_below_base_digits_of, first_digits_of, number_push}
use Rattle.dms_wire_ber.specs.ObjectIdentifier.{IsSubIdentifier, AreSubIdentifiers, IsName, numbers_from}
use Rattle.dms_wire_ber.specs.ObjectIdentifier.{sub_identifier_octets, sub_identifiers_of, name_octets}
use Rattle.dms_wire_ber.specs.ObjectIdentifier.{IsNameInLimits}
use Rattle.dms_wire_ber.proofs.BelowBase.{below-append, below_shifted}

first_other : (ds : List ℕ) → 0 < get_or ds 0 0 → get_or ds 0 1 ≢ 0
first_other [] some e = absurd (omega arith)
first_other (d ∷ ds) some e = absurd (omega arith)

first_not_zero : (n : ℕ) → get_or (digits_of 128 n) 0 1 ≢ 0
first_not_zero zero e = absurd (omega arith)
first_not_zero (suc n) e = first_other (digits_of 128 (suc n)) (first_digits_of 128 (suc n) (omega arith) (omega arith)) e

-- a number is its digits but the last, and the last
digits_parts : (n : ℕ) → number_from_digits 128 (digits_of 128 (n / 128) ++ (n % 128) ∷ []) ≡ n
digits_parts n = number_push 128 (digits_of 128 (n / 128)) (n % 128) ∙ omega (arith, number_digits_of 128 (n / 128) (omega arith))

sub_identifier_spelled : (n : ℕ) → IsSubIdentifier n (sub_identifier_octets n)
sub_identifier_spelled n = grind (arith, all_below_base_digits_of, first_not_zero, digits_parts)

sub_identifiers_spelled : (ns : List ℕ) → AllBelowBase (2 ^ 32) ns → AreSubIdentifiers ns (flat_map sub_identifier_octets ns)
sub_identifiers_spelled [] small = refl
sub_identifiers_spelled (n ∷ ns) small = grind (arith, flat_map, sub_identifier_spelled, sub_identifiers_spelled ns small.1)

-- the first two numbers come back from 40a + b
numbers_back : (a b : ℕ) (ns : List ℕ) → a ≤ 2 → (a < 2 → b < 40) → a ∷ b ∷ ns ≡ numbers_from ((40 * a + b) ∷ ns)
numbers_back a b ns few low = grind (arith, nat_tests)

pub name_spelled : (numbers : List ℕ) → IsNameInLimits numbers → IsName numbers (name_octets numbers)
unfolding name_octets
name_spelled [] within = absurd within
name_spelled (a ∷ []) within = absurd within
name_spelled (a ∷ b ∷ ns) within = record {
  sub_identifiers = (40 * a + b) ∷ ns;
  some = omega arith;
  few = omega (arith, within.4);
  spelled = sub_identifiers_spelled ((40 * a + b) ∷ ns) (within.2, within.3);
  numbers_is = numbers_back a b ns within.0 within.1;
}

sub_identifier_below : (n : ℕ) → AllBelowBase 256 (sub_identifier_octets n)
sub_identifier_below n =
    let high = all_below_base_digits_of 128 (n / 128) (omega arith) in
    let shifted = below_shifted 128 (digits_of 128 (n / 128)) high in
    below-append 256 (map (λ d. 128 + d) (digits_of 128 (n / 128))) ((n % 128) ∷ []) shifted (omega arith, tt)

sub_identifiers_below : (ns : List ℕ) → AllBelowBase 256 (flat_map sub_identifier_octets ns)
sub_identifiers_below [] = tt
sub_identifiers_below (n ∷ ns) = grind (arith, below-append, flat_map, sub_identifier_below, sub_identifiers_below ns)

pub name_below : (numbers : List ℕ) → AllBelowBase 256 (name_octets numbers)
unfolding name_octets
name_below numbers = sub_identifiers_below (sub_identifiers_of numbers)
