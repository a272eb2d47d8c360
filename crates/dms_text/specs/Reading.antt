-- Reading a line from its beginning: a value and the words after it (this profile).
use Rattle.std.specs.Prelude.{ℕ, ◌+◌, ◌-◌, ◌%◌, ◌==◌, ◌&&◌, Bool, true, false, if◌then◌else◌, List, [], ◌∷◌}
use Rattle.std.specs.Prelude.{length, nat_lt, nat_le, Option, Some, None, Result, Ok, Err}
use Rattle.std.specs.Char.{is_digit}
use Rattle.std.specs.List.{list_all}
use Rattle.std.specs.Str.{byte}
use Rattle.std.specs.Str.Parse.{digits_value}
use Rattle.hex.specs.Hex.{decode_of, is_hex_digit}
use Rattle.hex.specs.declared.error.FromHexError.{FromHexError}

-- ---- digits

-- the value of a hexadecimal digit: 256 more of a capital one, and 8192 of what is none
abbrev pub digit_value : ℕ → ℕ
digit_value octet =
    if nat_le 48 octet && nat_le octet 57 then octet - 48
    else if nat_le 97 octet && nat_le octet 102 then octet - 87
    else if nat_le 65 octet && nat_le octet 70 then octet + 201
    else 8192

-- ---- what a word spells

-- the number that one to `most` digits of the base spell
unfoldable pub number_of : ℕ → ℕ → List ℕ → Option ℕ
number_of base most word =
    if nat_lt 0 (length word) && (nat_le (length word) most && list_all (λ octet. is_digit octet base) word)
    then Some (digits_value base word)
    else None

abbrev pub within : ℕ → ℕ → ℕ → Option ℕ
within low high number = if nat_le low number && nat_le number high then Some number else None

-- the number of just four hexadecimal digits
unfoldable pub version_of : List ℕ → Option ℕ
version_of word = if length word == 4 then number_of 16 4 word else None

-- some octets that were decoded, or none
abbrev pub octets_decoded : Result (List ℕ) FromHexError → Option (List ℕ)
octets_decoded (Ok []) = None
octets_decoded (Ok (octet ∷ octets)) = Some (octet ∷ octets)
octets_decoded (Err fault) = None

abbrev pub is_dash : List ℕ → Bool
is_dash [] = false
is_dash (octet ∷ []) = octet == byte "-"
is_dash (octet ∷ other ∷ octets) = false

-- the octets that a word spells
unfoldable pub octets_of : List ℕ → Option (List ℕ)
octets_of word = if is_dash word then Some [] else octets_decoded (decode_of word)

-- one pair of hexadecimal digits or more
abbrev pub are_pairs : List ℕ → Bool
are_pairs word = nat_lt 0 (length word) && (length word % 2 == 0 && list_all is_hex_digit word)

-- ---- the words of a line

infixl 10 ◌>>=◌
abbrev pub ◌>>=◌ : {A B : Type 0} → Option A → (A → Option B) → Option B
None >>= next = None
Some value >>= next = next value

-- the next word; an empty one, between two spaces or at an end of the line, is none
unfoldable pub word_at : List (List ℕ) → Option (List ℕ × List (List ℕ))
word_at [] = None
word_at ([] ∷ words) = None
word_at ((octet ∷ octets) ∷ words) = Some (octet ∷ octets, words)

abbrev pub same_octets : List ℕ → List ℕ → Bool
same_octets [] [] = true
same_octets [] (y ∷ ys) = false
same_octets (x ∷ xs) [] = false
same_octets (x ∷ xs) (y ∷ ys) = x == y && same_octets xs ys

-- the words after this one
unfoldable pub keyword_at : List ℕ → List (List ℕ) → Option (List (List ℕ))
keyword_at keyword words = do
  found ← word_at words
  if same_octets found.0 keyword then Some found.1 else None

-- a number of one to `most` decimal digits, from low to high
unfoldable pub decimal_at : ℕ → ℕ → ℕ → List (List ℕ) → Option (ℕ × List (List ℕ))
decimal_at most low high words = do
  found ← word_at words
  number ← number_of 10 most found.0
  inside ← within low high number
  Some (inside, found.1)

-- no words are left
abbrev pub is_end : List (List ℕ) → Bool
is_end [] = true
is_end (word ∷ words) = false
