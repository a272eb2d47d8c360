-- A whole number as its content octets (X.690, 8.3), from -2^31 to 2^32 - 1 (the range is the profile's own).
use Rattle.std.specs.Prelude.{◌≡◌, ℕ, ℤ, pos, negsuc, ◌-◌, ◌^◌, Bool, true, false, IsTrue}
use Rattle.std.specs.Prelude.{nat_lt, nat_le, ◌==◌, List, [], ◌∷◌, map, if◌then◌else◌}
use Rattle.std.specs.Int.Digits.{number_from_digits}
use Rattle.std.specs.List.{slice_index_or}
use Rattle.std.specs.Int.Digits.{digits_of}

-- at least one octet, and where there are more the first nine bits are not all equal (8.3.2)
abbrev pub is_shortest : List ℕ → Bool
is_shortest [] = false
is_shortest (b ∷ []) = true
is_shortest (b ∷ c ∷ bs) = (if b == 0 then nat_le 128 c else if nat_le 255 b then nat_lt c 128 else true)

-- the sign is the first bit
abbrev pub is_negative : List ℕ → Bool
is_negative [] = false
is_negative (b ∷ bs) = nat_le 128 b

-- each bit inverted
abbrev pub inverted : List ℕ → List ℕ
inverted bs = map (λ b. 255 - b) bs

-- the octets as a two's complement number (8.3.3): the inverted octets of a negative z are -1 - z
abbrev pub signed_value : List ℕ → ℤ
signed_value bs =
    (if is_negative bs then negsuc (number_from_digits 256 (inverted bs)) else pos (number_from_digits 256 bs))

abbrev pub in_range : ℤ → Bool
in_range (pos n) = nat_lt n (2 ^ 32)
in_range (negsuc n) = nat_lt n (2 ^ 31)

-- the octets are the content of the number
pub record IsInteger (z : ℤ) (bs : List ℕ) : Type 0 where
  pub shortest : IsTrue (is_shortest bs)
  pub range : IsTrue (in_range z)
  pub value : z ≡ signed_value bs

-- the digits of a number, and a 0 before them where the first bit would not be 0 (X.690, 8.3)
abbrev pub positive_octets : ℕ → List ℕ
positive_octets n =
    (if nat_lt (slice_index_or (digits_of 256 n) 0 128) 128 then digits_of 256 n else 0 ∷ digits_of 256 n)

-- a negative z is the inverted octets of -1 - z
unfoldable pub integer_octets : ℤ → List ℕ
integer_octets (pos n) = positive_octets n
integer_octets (negsuc n) = inverted (positive_octets n)
