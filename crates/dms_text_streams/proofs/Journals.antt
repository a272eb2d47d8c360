-- Two texts put together: their lines, and a conversation over them.
use Rattle.std.proofs.Common.{◌≡◌, ℕ, ◌<◌, ◌==◌, List, [], ◌∷◌, ◌++◌, map, length, refl, ap, ◌∙◌, arith, append_assoc, append-nil}
use Rattle.std.specs.List.{slice_split, onto_first}
use Rattle.std.proofs.lemmas.List.Splits.{length-slice_split}
use Rattle.std.specs.Str.Lines.{lines, lines_of_parts, strip_carriage_return}
use Rattle.dms_text_streams.specs.Lines.{AreWholeLines}
use Rattle.dms_text_streams.specs.Conversation.{answers, left_by_all}
use Rattle.dms_text_streams.proofs.Turns.{answers-append, left-append}

abbrev parts : List ℕ → List (List ℕ)
parts octets = slice_split (λ (octet : ℕ). octet == 10) octets

some_part : (octets : List ℕ) → 0 < length (parts octets)
some_part octets = omega (arith, length-slice_split (λ (octet : ℕ). octet == 10) octets)

onto_first-append : (x : ℕ) (first second : List (List ℕ)) → 0 < length first → onto_first x (first ++ second) ≡ onto_first x first ++ second
onto_first-append x first second some = grind arith

-- a newline parts what is before it from what is after it
parts-append : (first second : List ℕ) → parts (first ++ 10 ∷ second) ≡ parts first ++ parts second
parts-append [] second = refl
parts-append (x ∷ first) second = grind (arith, onto_first-append, some_part, parts-append first second)

-- each part before another is a line
lines_before : (first second : List (List ℕ)) → 0 < length second → lines_of_parts (first ++ second) ≡ map strip_carriage_return first ++ lines_of_parts second
lines_before [] second some = refl
lines_before (line ∷ []) [] some = absurd (omega arith)
lines_before (line ∷ []) (next ∷ second) some = refl
lines_before (line ∷ next ∷ first) second some = ap (λ l. strip_carriage_return line ∷ l) (lines_before (next ∷ first) second some)

lines_after_newline : (first second : List ℕ) → lines (first ++ 10 ∷ second) ≡ map strip_carriage_return (parts first) ++ lines second
lines_after_newline first second =
    ap lines_of_parts (parts-append first second) ∙ lines_before (parts first) (parts second) (some_part second)

pub lines-append : (first second : List ℕ) → AreWholeLines first → lines (first ++ second) ≡ lines first ++ lines second
lines-append first second p = grind (arith, append_assoc, lines_after_newline, append-nil)

pub answers_go_on : {S : Type 0} (reply : S → List ℕ → List ℕ) (after : S → List ℕ → S) (state : S) (first second : List ℕ) → AreWholeLines first → answers reply after state (lines (first ++ second))
    ≡ answers reply after state (lines first) ++ answers reply after (left_by_all after state (lines first)) (lines second)
answers_go_on reply after state first second whole = ap (answers reply after state) (lines-append first second whole) ∙ answers-append reply after state (lines first) (lines second)

pub left_goes_on : {S : Type 0} (after : S → List ℕ → S) (state : S) (first second : List ℕ) → AreWholeLines first → left_by_all after state (lines (first ++ second))
    ≡ left_by_all after (left_by_all after state (lines first)) (lines second)
left_goes_on after state first second whole = ap (left_by_all after state) (lines-append first second whole) ∙ left-append after state (lines first) (lines second)
