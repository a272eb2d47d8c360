-- An input that is taken line by line (this profile). Its lines are those of std's `lines`: each ends at a newline, the
-- last perhaps at the end of the input, and one carriage return before a newline is no part of its line.
use Rattle.std.specs.Prelude.{◌≡◌, ◌≢◌, ℕ, ◌-◌, ◌<◌, ◌≤◌, ◌==◌, ◌⊎◌, if◌then◌else◌, List, [], ◌∷◌, ◌++◌}
use Rattle.std.specs.Prelude.{All, take, drop, length, slice_index, slice_range, Option, None, Some, ⊤}
use Rattle.std.specs.Io.KnownBytes.{prepend_known}
use Rattle.std.specs.Io.BufRead.{take_through, drop_through}
use Rattle.std.specs.Str.Lines.{strip_carriage_return}
use Rattle.dms_text_streams.specs.declared.input.Input.{Input}

-- the octets of an input that are not taken yet, where its source shows what it will give
abbrev pub left : {S : Type 0} → (S → Option (List ℕ)) → Input S → Option (List ℕ)
left remaining input = prepend_known (slice_range input.buffer.items input.start input.end) (remaining input.source)

-- a line without the newline at its end, and without a carriage return before that
abbrev pub line_of : List ℕ → List ℕ
line_of octets =
    if slice_index octets (length octets - 1) == 10 then strip_carriage_return (take (length octets - 1) octets)
    else octets

-- octets that are empty or end in a newline
abbrev pub AreWholeLines : List ℕ → Type 0
AreWholeLines octets = (octets ≡ []) ⊎ ((before : List ℕ) × (octets ≡ before ++ 10 ∷ []))

-- how much of a line is held: a line of 65,536 octets, with its newline and a carriage return before it, has one octet
-- less
abbrev pub held : ℕ
held = 65539

-- the octets up to and with the first newline are taken, and held up to a limit
abbrev pub Takes : ℕ → Option (List ℕ) → List ℕ → Option (List ℕ) → Type 0
Takes limit None line after = ⊤
Takes limit (Some octets) line None = ⊥
Takes limit (Some octets) line (Some rest) = (line ≡ take limit (take_through 10 octets))
    × (rest ≡ drop_through 10 octets)

-- the most octets that one call of a reader is asked for
abbrev pub longest_piece : ℕ
longest_piece = 4096

-- the first octets are taken, at most so many, and are lost
abbrev pub TakesAtMost : ℕ → Option (List ℕ) → Option (List ℕ) → Type 0
TakesAtMost limit None after = ⊤
TakesAtMost limit (Some octets) None = ⊥
TakesAtMost limit (Some octets) (Some rest) = (part : List ℕ) × (octets ≡ part ++ rest) × (length part ≤ limit)

-- octets without a newline
abbrev pub IsInLine : List ℕ → Type 0
IsInLine octets = All (λ (octet : ℕ). octet ≢ 10) octets

-- some octets before the first newline are taken, as many as parts or more, and held up to a limit
abbrev pub Continues : ℕ → ℕ → Option (List ℕ) → List ℕ → Option (List ℕ) → Type 0
Continues limit count None line after = ⊤
Continues limit count (Some octets) line None = ⊥
Continues limit count (Some octets) line (Some rest) =
    (part : List ℕ) × (octets ≡ part ++ rest) × IsInLine part × (line ≡ take limit part) × (count ≤ length part)

-- some octets before the first newline are taken and held, no more than a limit
abbrev pub Holds : ℕ → Option (List ℕ) → List ℕ → Option (List ℕ) → Type 0
Holds limit None line after = ⊤
Holds limit (Some octets) line None = ⊥
Holds limit (Some octets) line (Some rest) = (octets ≡ line ++ rest) × IsInLine line × (length line ≤ limit)

-- some octets before the first newline are taken, or none
abbrev pub Breaks : Option (List ℕ) → Option (List ℕ) → Type 0
Breaks None after = ⊤
Breaks (Some octets) None = ⊥
Breaks (Some octets) (Some rest) = (part : List ℕ) × (octets ≡ part ++ rest) × IsInLine part

-- the first octets of a piece stand before the first newline
abbrev pub IsPart : List ℕ → ℕ → Type 0
IsPart piece count = IsInLine (take count piece) × (0 < count)

-- they end with the first newline, or the piece is empty, at the end of the input
abbrev pub IsLastPart : List ℕ → ℕ → Type 0
IsLastPart piece count = (rest : List ℕ) → (piece ≡ [] → rest ≡ [])
    → (take_through 10 (piece ++ rest) ≡ take count piece)
    × (drop_through 10 (piece ++ rest) ≡ drop count piece ++ rest)
