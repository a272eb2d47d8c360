-- An element with its length in the shortest form.
use Rattle.std.proofs.Common.{ℕ, ◌+◌, ◌^◌, ◌<◌, ◌≤◌, List, ◌∷◌, ◌++◌, length, refl, sym, arith, inr, length-append, ltb-true, ltb-false}
use Rattle.std.proofs.lemmas.Bool.{cases_Bool}
use Rattle.std.specs.Int.Digits.{digits_of, AllBelowBase}
use Rattle.std.proofs.lemmas.Int.Digits.{number_digits_of, all_below_base_digits_of, length-digits_of_step, length-digits_of-le}
use Rattle.dms_wire_ber.specs.Length.{IsLength}
use Rattle.dms_wire_ber.specs.Element.{IsElement, ◌⨾◌}
use Rattle.dms_wire_ber.specs.Length.{short_length}
use Rattle.dms_wire_ber.specs.Element.{element}
use Rattle.dms_wire_ber.proofs.BelowBase.{below-append}
use Rattle.dms_wire_ber.specs.Limits.{longest_datagram}

-- the shortest form of a length stands for it, in octets
abbrev IsLengthOf : ℕ → List ℕ → Type 0
IsLengthOf n octets = IsLength octets n × AllBelowBase 256 octets

long_spelled : (n : ℕ) → 0 < n → n < 2 ^ 32 → IsLengthOf n ((128 + length (digits_of 256 n)) ∷ digits_of 256 n)
long_spelled n some small =
    let least = length-digits_of_step 256 n (omega arith) some in
    let most = length-digits_of-le 256 4 n (omega arith) small in
    (inr (refl, omega arith, most, sym (number_digits_of 256 n (omega arith))), (omega arith, all_below_base_digits_of 256 n (omega arith)))

length_spelled : (n : ℕ) → n < 2 ^ 32 → IsLengthOf n (short_length n)
length_spelled n small = grind (arith, cases_Bool, ltb-true, long_spelled, ltb-false)

-- octets that spell what P says if a datagram has room for them
abbrev pub Fits : (List ℕ → Type 0) → List ℕ → Type 0
Fits P octets = length octets ≤ longest_datagram → P octets × AllBelowBase 256 octets

pub fits_element : (tag : ℕ) (P : List ℕ → Type 0) (content : List ℕ) → tag < 256 → Fits P content → Fits (IsElement tag P) (element tag content)
unfolding element
fits_element tag P content octet fits room =
    let least : length content ≤ longest_datagram = omega (arith, length-append (short_length (length content)) content) in
    let len = length_spelled (length content) (omega arith) in
    let inner = fits least in (
      record { len = short_length (length content); content = content; form = len.0; spelled = inner.0; parts = refl },
      (octet, below-append 256 (short_length (length content)) content len.1 inner.1),
    )

pub fits_both : (P Q : List ℕ → Type 0) (xs ys : List ℕ) → Fits P xs → Fits Q ys → Fits (P ⨾ Q) (xs ++ ys)
fits_both P Q xs ys first second room = grind (arith, length-append, below-append)
