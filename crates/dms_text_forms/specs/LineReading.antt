-- Reading a line word by word: what is wanted is taken, or the line has a fault there (this profile).
use Rattle.std.specs.Prelude.{◌≡◌, ℕ, ◌+◌, if◌then◌else◌, List, ◌∷◌, Option, Some, None}
use Rattle.dms_text.specs.Reading.{number_of, within, word_at, ◌>>=◌}
use Rattle.dms_text_forms.specs.Form.{is_wanted, fault_from}
use Rattle.dms_text_forms.specs.declared.wanted.Wanted.{Wanted}
use Rattle.dms_text_forms.specs.declared.fault.WordFault.{WordFault}
use Rattle.dms_text_forms.specs.declared.line_words.LineWords.{LineWords}

-- the next word, where it is what is wanted
unfoldable pub wanted_at : Wanted → List (List ℕ) → Option (List ℕ × List (List ℕ))
wanted_at wanted words = do
  found ← word_at words
  if is_wanted wanted found.0 then Some found else None

-- the number of one to `most` decimal digits that a word is, from low to high
abbrev pub number_within : ℕ → ℕ → ℕ → List ℕ → Option ℕ
number_within most low high word = number_of 10 most word >>= within low high

-- the next word of the line is what is wanted, and the rest is left after it: a fault is one of the rest
pub record Takes (wanted : Wanted) (line rest : LineWords) : Type 0 where
  pub place : rest.place ≡ line.place + 1
  pub others : (more : List Wanted)
      → fault_from line.place (wanted ∷ more) line.words ≡ fault_from rest.place more rest.words

-- it is not, and this is the line's fault, whatever is wanted after it
pub record Lacks (wanted : Wanted) (line : LineWords) (fault : WordFault) : Type 0 where
  pub is : (more : List Wanted) → fault_from line.place (wanted ∷ more) line.words ≡ Some fault
