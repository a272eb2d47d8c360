-- The octets of sub-identifiers of sixteen bits.
use Rattle.std.proofs.Common.{◌≡◌, ℕ, ◌+◌, ◌/◌, ◌%◌, ◌<◌, ◌≤◌, [], ◌∷◌, refl, arith}
use Rattle.dms_wire_ber.specs.ObjectIdentifier.{sub_identifier_octets}
use Rattle.dms_wire_ber.proofs.SubIdentifiers.{two_digits, two_octets}

pub one_octet : (n : ℕ) → n < 128 → sub_identifier_octets n ≡ n ∷ []
one_octet n few =
    let none : n / 128 ≡ 0 = omega arith in
    let last : n % 128 ≡ n = omega arith in
    rw (none, last) refl

pub three_octets : (n : ℕ) → 16384 ≤ n → n < 65536 → sub_identifier_octets n ≡ (128 + n / 16384) ∷ (128 + n / 128 % 128) ∷ (n % 128) ∷ []
three_octets n least few =
    let high : n / 128 / 128 ≡ n / 16384 = omega arith in
    rw (two_digits (n / 128) (omega arith) (omega arith), high) refl

pub ruleset sizes = (one_octet, two_octets, three_octets)
