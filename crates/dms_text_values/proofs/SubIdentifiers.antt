-- The octets of sub-identifiers of thirty-two bits.
use Rattle.std.proofs.Common.{◌≡◌, ℕ, ◌+◌, ◌/◌, ◌%◌, ◌^◌, ◌<◌, ◌≤◌, [], ◌∷◌, refl, ◌∙◌, arith}
use Rattle.std.specs.Int.Digits.{digits_of}
use Rattle.std.proofs.lemmas.Int.Digits.{digits_of_step}
use Rattle.dms_wire_ber.specs.ObjectIdentifier.{sub_identifier_octets}
use Rattle.dms_wire_ber.proofs.SubIdentifiers.{two_digits, two_octets}

three_digits : (n : ℕ) → 16384 ≤ n → n < 2097152 → digits_of 128 n ≡ n / 16384 ∷ n / 128 % 128 ∷ n % 128 ∷ []
three_digits n least few =
    let high : n / 128 / 128 ≡ n / 16384 = omega arith in
    digits_of_step 128 n (omega arith) (omega arith) ∙ rw (two_digits (n / 128) (omega arith) (omega arith), high) refl

four_digits : (n : ℕ) → 2097152 ≤ n → n < 268435456 → digits_of 128 n ≡ n / 2097152 ∷ n / 16384 % 128 ∷ n / 128 % 128 ∷ n % 128 ∷ []
four_digits n least few =
    let high : n / 128 / 16384 ≡ n / 2097152 = omega arith in
    let next : n / 128 / 128 ≡ n / 16384 = omega arith in
    digits_of_step 128 n (omega arith) (omega arith) ∙ rw (three_digits (n / 128) (omega arith) (omega arith), high, next) refl

pub one_octet : (n : ℕ) → n < 128 → sub_identifier_octets n ≡ n % 128 ∷ []
one_octet n few =
    let none : n / 128 ≡ 0 = omega arith in
    rw none refl

pub three_octets : (n : ℕ) → 16384 ≤ n → n < 2097152
    → sub_identifier_octets n ≡ (128 + n / 16384 % 128) ∷ (128 + n / 128 % 128) ∷ (n % 128) ∷ []
three_octets n least few =
    let high : n / 128 / 128 ≡ n / 16384 = omega arith in
    let whole : n / 16384 % 128 ≡ n / 16384 = omega arith in
    rw (two_digits (n / 128) (omega arith) (omega arith), high, whole) refl

pub four_octets : (n : ℕ) → 2097152 ≤ n → n < 268435456
    → sub_identifier_octets n ≡ (128 + n / 2097152 % 128) ∷ (128 + n / 16384 % 128) ∷ (128 + n / 128 % 128) ∷ (n % 128) ∷ []
four_octets n least few =
    let high : n / 128 / 16384 ≡ n / 2097152 = omega arith in
    let next : n / 128 / 128 ≡ n / 16384 = omega arith in
    let whole : n / 2097152 % 128 ≡ n / 2097152 = omega arith in
    rw (three_digits (n / 128) (omega arith) (omega arith), high, next, whole) refl

pub five_octets : (n : ℕ) → 268435456 ≤ n → n < 2 ^ 32
    → sub_identifier_octets n ≡ (128 + n / 268435456) ∷ (128 + n / 2097152 % 128) ∷ (128 + n / 16384 % 128) ∷ (128 + n / 128 % 128) ∷ (n % 128) ∷ []
five_octets n least few =
    let high : n / 128 / 2097152 ≡ n / 268435456 = omega arith in
    let third : n / 128 / 16384 ≡ n / 2097152 = omega arith in
    let next : n / 128 / 128 ≡ n / 16384 = omega arith in
    rw (four_digits (n / 128) (omega arith) (omega arith), high, third, next) refl

pub ruleset sizes = (one_octet, two_octets, three_octets, four_octets, five_octets)
