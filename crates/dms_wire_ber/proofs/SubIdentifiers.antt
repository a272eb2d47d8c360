-- The digits of a sub-identifier that is short, and its octets.
use Rattle.std.proofs.Common.{◌≡◌, ℕ, ◌+◌, ◌/◌, ◌%◌, ◌<◌, ◌≤◌, [], ◌∷◌, refl, ◌∙◌, arith}
use Rattle.std.specs.Int.Digits.{digits_of}
use Rattle.std.proofs.lemmas.Int.Digits.{digits_of_step}
use Rattle.dms_wire_ber.specs.ObjectIdentifier.{sub_identifier_octets}

pub one_digit : (n : ℕ) → 0 < n → n < 128 → digits_of 128 n ≡ n ∷ []
one_digit n some few =
    let none : n / 128 ≡ 0 = omega arith in
    let last : n % 128 ≡ n = omega arith in
    digits_of_step 128 n (omega arith) some ∙ rw (none, last) refl

pub two_digits : (n : ℕ) → 128 ≤ n → n < 16384 → digits_of 128 n ≡ n / 128 ∷ n % 128 ∷ []
two_digits n least few =
    digits_of_step 128 n (omega arith) (omega arith) ∙ rw (one_digit (n / 128) (omega arith) (omega arith)) refl

pub two_octets : (n : ℕ) → 128 ≤ n → n < 16384 → sub_identifier_octets n ≡ (128 + n / 128 % 128) ∷ (n % 128) ∷ []
two_octets n least few =
    let whole : n / 128 % 128 ≡ n / 128 = omega arith in
    rw (whole, one_digit (n / 128) (omega arith) (omega arith)) refl
