-- The fields of a line read from its beginning, which the calls say of themselves; proofs/FieldLaws.antt joins them to
-- what the words spell (this profile).
use Rattle.std.specs.Prelude.{ℕ, if◌then◌else◌, List, [], ◌∷◌, Option, Some, None}
use Rattle.std.specs.Str.{byte}
use Rattle.dms_text.specs.Words.{parts_of}
use Rattle.dms_text.specs.Reading.{octets_of, word_at, decimal_at, is_end, ◌>>=◌}

-- a value, where no words are left after it
abbrev pub if_last : {A : Type 0} → A → List (List ℕ) → Option A
if_last value words = if is_end words then Some value else None

abbrev pub octet_at : List (List ℕ) → Option (ℕ × List (List ℕ))
octet_at words = decimal_at 5 0 255 words

abbrev pub two_octets_at : List (List ℕ) → Option (ℕ × List (List ℕ))
two_octets_at words = decimal_at 5 0 65535 words

-- a number of four octets, and nothing after it
unfoldable pub last_number_at : List (List ℕ) → Option ℕ
last_number_at words = do
  number ← decimal_at 10 0 4294967295 words
  if_last number.0 number.1

unfoldable pub octets_at : List (List ℕ) → Option (List ℕ × List (List ℕ))
octets_at words = do
  found ← word_at words
  octets ← octets_of found.0
  Some (octets, found.1)

-- octets, and nothing after them
unfoldable pub last_octets_at : List (List ℕ) → Option (List ℕ)
last_octets_at words = do
  octets ← octets_at words
  if_last octets.0 octets.1

-- the four numbers of an address, of the parts of a word
unfoldable pub address_at : List (List ℕ) → Option (List ℕ)
address_at parts = do
  first ← decimal_at 3 0 255 parts
  second ← decimal_at 3 0 255 first.1
  third ← decimal_at 3 0 255 second.1
  fourth ← decimal_at 3 0 255 third.1
  if_last (first.0 ∷ second.0 ∷ third.0 ∷ fourth.0 ∷ []) fourth.1

abbrev pub address_of : List ℕ → Option (List ℕ)
address_of word = address_at (parts_of (byte ".") word)
