-- A text as lines (this profile). Its lines are those of std's `lines`: each ends at a newline, the last perhaps at the
-- end of the text, and one carriage return before a newline is no part of its line.
use Rattle.std.specs.Prelude.{ℕ, ◌+◌, ◌==◌, Bool, true, not, if◌then◌else◌, List, [], ◌∷◌, length, filter}
use Rattle.std.specs.Str.{byte}
use Rattle.std.specs.Str.Lines.{lines}

-- an empty line, or a comment, which begins with `#`
abbrev pub is_skipped : List ℕ → Bool
is_skipped [] = true
is_skipped (octet ∷ octets) = octet == byte "#"

-- the lines that say something
abbrev pub kept_lines : List ℕ → List (List ℕ)
kept_lines text = filter (λ line. not (is_skipped line)) (lines text)

-- a line and its number
pub record NumberedLine : Type 0 where
  pub number : ℕ
  pub octets : List ℕ

-- of lines that have the numbers from `number` on, those that are kept
abbrev pub numbered : ℕ → List (List ℕ) → List NumberedLine
numbered number [] = []
numbered number (line ∷ more) =
    if is_skipped line then numbered (number + 1) more
    else record { number = number; octets = line } ∷ numbered (number + 1) more

-- the part of a text that is left, and the number of its first line
pub record TextLeft : Type 0 where
  pub number : ℕ
  pub text : List ℕ

-- the lines that are left
abbrev pub lines_left : TextLeft → List NumberedLine
lines_left left = numbered left.number (lines left.text)

-- the number after that of the last line
abbrev pub number_after : TextLeft → ℕ
number_after left = left.number + length (lines left.text)
