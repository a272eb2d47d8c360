-- The object identifier that a word spells: numbers with dots between them, within the limits of X.690, 8.19, and of
-- this profile.
use Rattle.std.specs.Prelude.{ℕ, zero, suc, nat_lt, if◌then◌else◌, List, [], ◌∷◌, Option, Some, None}
use Rattle.std.specs.Str.{byte}
use Rattle.dms_text.specs.Words.{parts_of}
use Rattle.dms_text.specs.Reading.{decimal_at, ◌>>=◌}

-- the numbers that parts are, each of one to ten decimal digits and below 2^32; there are at most so many
abbrev pub numbers_at : ℕ → List (List ℕ) → Option (List ℕ)
numbers_at most [] = Some []
numbers_at zero (part ∷ parts) = None
numbers_at (suc most) (part ∷ parts) =
    decimal_at 10 0 4294967295 (part ∷ parts)
    >>= (λ number. numbers_at most parts >>= (λ others. Some (number.0 ∷ others)))

-- the most that the second number may be: below 40 after 0 and 1, and 40 times the first and it are below 2^32
abbrev pub most_second : ℕ → ℕ
most_second first = if nat_lt first 2 then 39 else 4294967215

-- the first number is at most 2, and there are at most 126 after the second
unfoldable pub name_of : List ℕ → Option (List ℕ)
name_of word = do
  first ← decimal_at 10 0 2 (parts_of (byte ".") word)
  second ← decimal_at 10 0 (most_second first.0) first.1
  others ← numbers_at 126 second.1
  Some (first.0 ∷ second.0 ∷ others)
