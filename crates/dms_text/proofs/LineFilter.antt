-- The lines that are kept, with and without their numbers.
use Rattle.std.proofs.Common.{◌≡◌, ℕ, ◌+◌, Bool, true, false, cond, List, [], ◌∷◌, map, filter, refl, ap, not}
use Rattle.dms_text.specs.Lines.{NumberedLine, is_skipped, numbered}

abbrev pub octets_of_lines : List NumberedLine → List (List ℕ)
octets_of_lines lines = map (λ (line : NumberedLine). line.octets) lines

kept_or_not : (skipped : Bool) (line : NumberedLine) (more : List NumberedLine) (rest : List (List ℕ)) → octets_of_lines more ≡ rest
    → octets_of_lines (cond skipped more (line ∷ more)) ≡ cond (not skipped) (line.octets ∷ rest) rest
kept_or_not true line more rest e = e
kept_or_not false line more rest e = ap (λ lines. line.octets ∷ lines) e

pub octets-numbered : (number : ℕ) (lines : List (List ℕ)) → octets_of_lines (numbered number lines) ≡ filter (λ line. not (is_skipped line)) lines
octets-numbered number [] = refl
octets-numbered number (line ∷ lines) =
    kept_or_not (is_skipped line) (record { number = number; octets = line }) (numbered (number + 1) lines) (filter (λ line. not (is_skipped line)) lines)
    (octets-numbered (number + 1) lines)
