-- The first line of a text.
use Rattle.std.proofs.Common.{◌≡◌, ℕ, ◌<◌, ◌==◌, Bool, true, false, cond, List, [], ◌∷◌, length, refl, ap, ◌∙◌, arith}
use Rattle.std.specs.List.{slice_split, onto_first}
use Rattle.dms_text.specs.Words.{parts_of}
use Rattle.dms_text.specs.Reading.{is_end}
use Rattle.std.specs.Str.Lines.{lines, lines_of_parts, strip_carriage_return}
use Rattle.std.proofs.lemmas.Bool.Decides.{nat_tests}

onto_some : (x : ℕ) (parts : List (List ℕ)) → 0 < length (onto_first x parts)
onto_some x [] = omega arith
onto_some x (part ∷ parts) = omega arith

-- a list has at least one part
some_part : (p : ℕ → Bool) (xs : List ℕ) → 0 < length (slice_split p xs)
some_part p [] = omega arith
some_part p (x ∷ xs) = elim (p x) as (λ b. 0 < length (cond b ([] ∷ slice_split p xs) (onto_first x (slice_split p xs)))) [
  | true ↦ omega arith
  | false ↦ onto_some x (slice_split p xs)
]

first_of : (line : List ℕ) (parts : List (List ℕ)) → 0 < length parts → lines_of_parts (line ∷ parts) ≡ strip_carriage_return line ∷ lines_of_parts parts
first_of line [] some = absurd (omega arith)
first_of line (part ∷ parts) some = refl

-- a newline ends the first line
pub line_first : (text line rest : List ℕ) → slice_split (λ (o : ℕ). o == 10) text ≡ line ∷ slice_split (λ (o : ℕ). o == 10) rest
    → lines text ≡ strip_carriage_return line ∷ lines rest
line_first text line rest parts = ap lines_of_parts parts ∙ first_of line (slice_split (λ (o : ℕ). o == 10) rest) (some_part (λ (o : ℕ). o == 10) rest)

-- a text without a newline is a line
pub line_only : (text : List ℕ) → slice_split (λ (o : ℕ). o == 10) text ≡ text ∷ [] → 0 < length text → lines text ≡ text ∷ lines []
line_only text parts some =
    let tested : (length text == 0) ≡ false = grind (arith, nat_tests) in
    ap lines_of_parts parts ∙ ap (λ b. cond b [] (text ∷ [])) tested

pub ruleset first_lines = (line_first, line_only)

end_after : (words : List (List ℕ)) → 0 < length words → is_end words ≡ false
end_after [] some = absurd (omega arith)
end_after (word ∷ words) some = refl

-- a text is not the end of its parts
pub line_goes_on : (separator : ℕ) (line : List ℕ) → is_end (parts_of separator line) ≡ false
line_goes_on separator line = end_after (parts_of separator line) (some_part (λ (o : ℕ). o == separator) line)

pub ruleset ends = (line_goes_on)
