-- Reading words of a state's lines: what each spells, and what is left. Inner words of the readers; the laws in proofs/
-- join them to the texts of states (this profile).
use Rattle.std.specs.Prelude.{ℕ, is_some, if◌then◌else◌, List, Option, Some, None}
use Rattle.std.specs.Str.{byte}
use Rattle.dms_text.specs.Reading.{word_at, ◌>>=◌}
use Rattle.dms_codes.specs.declared.codes.Order.{Order}
use Rattle.dms_codes.specs.declared.codes.Activation.{Activation}
use Rattle.dms_codes.specs.Codes.{activation_of}
use Rattle.dms_text_exact.specs.ExactWords as exact
use Rattle.dms_text_exact.specs.Fronts.{cut_at}

-- the first line without its end, and the text after it
abbrev pub line_at : List ℕ → Option (List ℕ × List ℕ)
line_at text = cut_at (byte "\n") text

-- the words after a number from low to high
unfoldable pub after_number : ℕ → ℕ → List (List ℕ) → Option (List (List ℕ))
after_number low high words = do
  found ← word_at words
  number ← exact.number_in low high found.0
  Some found.1

-- the words after at most so many octets
unfoldable pub after_octets : ℕ → List (List ℕ) → Option (List (List ℕ))
after_octets most words = do
  found ← word_at words
  if is_some (exact.octets_in most found.0) then Some found.1 else None

-- the words after an address
unfoldable pub after_address : List (List ℕ) → Option (List (List ℕ))
after_address words = do
  found ← word_at words
  address ← exact.address_in found.0
  Some found.1

-- the code of twelve octets
unfoldable pub code_in : Order → List ℕ → Option Activation
code_in order word = do
  octets ← exact.code_in 12 word
  Some (activation_of order octets)
