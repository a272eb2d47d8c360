-- A checksum has sixteen bits.
use Rattle.std.proofs.Common.{ℕ, zero, suc, ◌-◌, ◌^◌, ◌<◌, ◌≤◌, Bool, true, false, not, List, [], ◌∷◌, ◌++◌, length, map, arith, pow-suc, pow_pos}
use Rattle.std.proofs.lemmas.List.{length-map}
use Rattle.std.specs.List.{flat_map}
use Rattle.dms_codes.specs.Checksum.{number, octet_bits, remainder, first_sixteen_inverted, sixteen_zeros, message_checksum}
use Rattle.dms_codes.proofs.Division.{length-divided}

number_below : (count : ℕ) (bits : List Bool) → length bits ≤ count → number bits < 2 ^ count
number_below count [] room = pow_pos count
number_below zero (bit ∷ bits) room = absurd (omega arith)
number_below (suc count) (true ∷ bits) room = omega (arith, pow-suc 2 count, number_below count bits (omega arith))
number_below (suc count) (false ∷ bits) room = omega (arith, pow-suc 2 count, number_below count bits (omega arith))

length-remainder : (bits : List Bool) → length (remainder bits) ≤ 16
length-remainder bits = omega (arith, length-divided (length bits - 16) bits)

below_by : (bits : List Bool) → number (map not (remainder bits)) < 2 ^ 16
below_by bits = number_below 16 (map not (remainder bits)) (omega (arith, length-map (remainder bits) not, length-remainder bits))

pub message_checksum_below : (text : List ℕ) (beacon pixel : ℕ) → message_checksum text beacon pixel < 2 ^ 16
message_checksum_below text beacon pixel = below_by (first_sixteen_inverted (flat_map octet_bits (text ++ beacon ∷ pixel ∷ [])) ++ sixteen_zeros)
