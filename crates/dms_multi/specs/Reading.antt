-- Reading a text from its beginning: the next item and what follows it, or the code of the fault that stands there
-- (NTCIP 1203, MULTI).
use Rattle.std.specs.Prelude.{ℕ, ◌+◌, ◌==◌, Bool, List, [], ◌∷◌, take, drop, position}
use Rattle.std.specs.Prelude.{Option, Some, None, option_map, option_and_then}
use Rattle.std.specs.Char.{to_ascii_lowercase}
use Rattle.std.specs.Borrow.{Bor}
use Rattle.dms_text.specs.Reading.{within}
unfoldable pub use Rattle.dms_text.specs.Reading.{number_of, version_of}

-- ---- values

-- the number from low to high that one to five decimal digits spell
unfoldable pub decimal_of : ℕ → ℕ → List ℕ → Option ℕ
decimal_of low high text = option_and_then (within low high) (number_of 10 5 text)

-- such a number, or no number where nothing stands
unfoldable pub value_of : ℕ → ℕ → List ℕ → Option (Option ℕ)
value_of low high [] = Some None
value_of low high (c ∷ cs) = option_map Some (decimal_of low high (c ∷ cs))

-- ---- pieces

-- whether an octet is the letter in either case
abbrev pub is_letter : ℕ → ℕ → Bool
is_letter letter c = to_ascii_lowercase c == letter

-- what stands before and after the first such octet
unfoldable pub cut : ℕ → List ℕ → Option (List ℕ × List ℕ)
cut letter text = option_map (λ n. (take n text, drop (n + 1) text)) (position (is_letter letter) text)

abbrev pub halves : Bor (List ℕ) × Bor (List ℕ) → List ℕ × List ℕ
halves pieces = (pieces.0.now, pieces.1.now)
