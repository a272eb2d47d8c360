-- The length of a content, as its octets (X.690, 8.1.3).
use Rattle.std.specs.Prelude.{◌≡◌, ℕ, ◌+◌, ◌<◌, ◌≤◌, ◌⊎◌, List, [], ◌∷◌, length}
use Rattle.std.specs.Int.Digits.{number_from_digits}
use Rattle.std.specs.Prelude.{nat_lt, if◌then◌else◌}
use Rattle.std.specs.Int.Digits.{digits_of}

-- One octet below 128 is the length (short form, 8.1.3.4). Or 128 plus the number of octets after it, one to four,
-- which are the length, high octet first, leading zeros allowed (long form, 8.1.3.5; four is the profile's own limit).
abbrev pub IsLength : List ℕ → ℕ → Type 0
IsLength [] n = ⊥
IsLength (b ∷ bs) n =
    ((b < 128) × (bs ≡ []) × (n ≡ b))
    ⊎ ((b ≡ 128 + length bs) × (0 < length bs) × (length bs ≤ 4) × (n ≡ number_from_digits 256 bs))

-- the short form where it serves, else the long one without leading zeros (X.690, 8.1.3)
abbrev pub short_length : ℕ → List ℕ
short_length n = (if nat_lt n 128 then n ∷ [] else (128 + length (digits_of 256 n)) ∷ digits_of 256 n)
