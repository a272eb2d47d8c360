-- The checksum of a message, 16 bits, by division of polynomials over bits (ISO/IEC 3309).
use Rattle.std.specs.Prelude.{ℕ, zero, suc, ◌+◌, ◌-◌, ◌*◌, ◌/◌, ◌%◌, ◌==◌, Bool, true, false, not, if◌then◌else◌}
use Rattle.std.specs.Prelude.{List, [], ◌∷◌, ◌++◌, length, map, take, drop, replicate}
use Rattle.std.specs.List.{flat_map}

-- ---- bits

-- the low bits of a number, the lowest first
abbrev pub low_bits : ℕ → ℕ → List Bool
low_bits zero n = []
low_bits (suc count) n = (n % 2 == 1) ∷ low_bits count (n / 2)

-- the bits of an octet in the order of transmission
unfoldable pub octet_bits : ℕ → List Bool
octet_bits octet = low_bits 8 octet

-- the number that has these bits, the lowest first
abbrev pub number : List Bool → ℕ
number [] = 0
number (bit ∷ bits) = (if bit then 1 else 0) + number bits * 2

-- the sum of two bits, without a carry
abbrev pub sum_of_bits : Bool → Bool → Bool
sum_of_bits true bit = not bit
sum_of_bits false bit = bit

-- these terms added, bit by bit, to the first of the bits
abbrev pub add : List Bool → List Bool → List Bool
add [] bits = bits
add (term ∷ terms) [] = []
add (term ∷ terms) (bit ∷ bits) = sum_of_bits term bit ∷ add terms bits

-- ---- division

-- x^16 + x^12 + x^5 + 1 without its first term
abbrev pub divisor : List Bool
divisor =
    false ∷ false ∷ false ∷ true ∷ false ∷ false ∷ false ∷ false
    ∷ false ∷ false ∷ true ∷ false ∷ false ∷ false ∷ false ∷ true ∷ []

-- so many times the first bit is taken away and, where it was 1, the divisor added to the next sixteen
abbrev pub divided : ℕ → List Bool → List Bool
divided zero bits = bits
divided (suc count) [] = []
divided (suc count) (bit ∷ bits) = divided count (if bit then add divisor bits else bits)

-- what is left once no more than sixteen bits are
abbrev pub remainder : List Bool → List Bool
remainder bits = divided (length bits - 16) bits

abbrev pub sixteen_zeros : List Bool
sixteen_zeros = replicate 16 false

-- ---- the checksum

abbrev pub first_sixteen_inverted : List Bool → List Bool
first_sixteen_inverted bits = map not (take 16 bits) ++ drop 16 bits

-- The register is preset to ones (the first sixteen bits are inverted), the bits are multiplied by x^16 and divided,
-- and the remainder is complemented.
abbrev pub checksum : List ℕ → ℕ
checksum octets = number (map not (remainder (first_sixteen_inverted (flat_map octet_bits octets) ++ sixteen_zeros)))

-- of a message: its text, its beacon and its pixel service, an octet each
abbrev pub message_checksum : List ℕ → ℕ → ℕ → ℕ
message_checksum text beacon pixel = checksum (text ++ beacon ∷ pixel ∷ [])
