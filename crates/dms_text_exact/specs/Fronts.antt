-- What stands at the front of a text (this profile): a name, or what an octet ends.
use Rattle.std.specs.Prelude.{◌≡◌, ℕ, ◌+◌, ◌==◌, Bool, false, if◌then◌else◌, List, length, take, drop}
use Rattle.std.specs.Prelude.{Option, Some, None}
use Rattle.std.specs.List.{list_any}
use Rattle.dms_text.specs.Words.{index_of}
use Rattle.dms_text.specs.Reading.{same_octets, ◌>>=◌}

-- a text begins with these octets
abbrev pub starts_with : List ℕ → List ℕ → Bool
starts_with name text = same_octets (take (length name) text) name

-- the text behind them
unfoldable pub behind : List ℕ → List ℕ → Option (List ℕ)
behind name text = if starts_with name text then Some (drop (length name) text) else None

-- what stands before the first such octet, and after it
unfoldable pub cut_at : ℕ → List ℕ → Option (List ℕ × List ℕ)
cut_at end text = do
  index ← index_of end text
  Some (take index text, drop (index + 1) text)

-- no such octet is in a word
abbrev pub IsFree : ℕ → List ℕ → Type 0
IsFree end word = list_any (λ octet. octet == end) word ≡ false
