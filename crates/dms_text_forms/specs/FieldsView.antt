-- The octets that a word of the code spells (this profile).
use Rattle.std.specs.Prelude.{ℕ, List, [], unwrap_or}
use Rattle.std.specs.Borrow.{Bor}
use Rattle.dms_text.specs.Reading.{octets_of}

-- the octets of a word that spells some
abbrev pub octets_in : List ℕ → List ℕ
octets_in word = unwrap_or (octets_of word) []

abbrev pub octets_seen : Bor (List ℕ) → List ℕ
octets_seen word = octets_in word.now

abbrev pub octets_and_rest : Bor (List ℕ) × List (List ℕ) → List ℕ × List (List ℕ)
octets_and_rest found = (octets_in found.0.now, found.1)
