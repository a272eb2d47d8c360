-- The description that stands before a conversation: the lines up to and with the first line `end` (this profile).
use Rattle.std.specs.Prelude.{◌≡◌, ℕ, Bool, nat_eq, if◌then◌else◌, List, [], ◌∷◌, ◌++◌, Option, None, Some, ⊤, codes}
use Rattle.std.specs.Cmp.Lexicographic.{pointwise}
use Rattle.std.specs.Str.Lines.{lines}

-- the most octets of an input that is read as a whole, and of a description
abbrev pub longest_input : ℕ
longest_input = 1048576

abbrev pub is_end : List ℕ → Bool
is_end line = pointwise nat_eq line (codes "end")

-- the lines up to and with the first line `end`, or all where there is none
abbrev pub lines_through_end : List (List ℕ) → List (List ℕ)
lines_through_end [] = []
lines_through_end (line ∷ more) = if is_end line then line ∷ [] else line ∷ lines_through_end more

-- the lines after that
abbrev pub lines_after_end : List (List ℕ) → List (List ℕ)
lines_after_end [] = []
lines_after_end (line ∷ more) = if is_end line then more else lines_after_end more

-- the first octets of an input are taken, those of the lines up to and with the first line `end`
abbrev pub TakesDescription : Option (List ℕ) → List ℕ → Option (List ℕ) → Type 0
TakesDescription None text after = ⊤
TakesDescription (Some octets) text None = ⊥
TakesDescription (Some octets) text (Some rest) = (octets ≡ text ++ rest)
    × (lines text ≡ lines_through_end (lines octets)) × (lines rest ≡ lines_after_end (lines octets))

-- what is left are the lines after the first line `end`
abbrev pub LeavesLinesAfterEnd : Option (List ℕ) → Option (List ℕ) → Type 0
LeavesLinesAfterEnd None after = ⊤
LeavesLinesAfterEnd (Some octets) None = ⊥
LeavesLinesAfterEnd (Some octets) (Some rest) = lines rest ≡ lines_after_end (lines octets)
