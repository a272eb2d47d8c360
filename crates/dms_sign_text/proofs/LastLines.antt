-- Lines of a text that are left, which are its last.
use Rattle.std.proofs.Common.{◌≡◌, ℕ, ◌-◌, Bool, true, false, cond, List, [], ◌∷◌, ◌++◌, length, drop, refl, sym, ap, subst, ◌∙◌, arith, append_assoc}
use Rattle.dms_text.specs.Lines.{NumberedLine, TextLeft, lines_left}
use Rattle.dms_text_forms.specs.declared.wanted.Wanted.{Wanted}
use Rattle.dms_sign_text.specs.RefusedLine.{NumberedLines, numbered_left, octets_of, last_lines, Leaves, from_misfit}
use Rattle.dms_sign_text.specs.Views.{after, past, HaveForms}
use Rattle.std.proofs.lemmas.List.{length-append, length-map}
use Rattle.std.proofs.Math.Seq.{drop-append_seam}

pub leaves_all : (lines : NumberedLines) → Leaves lines lines
leaves_all lines = record { prefix = []; lines_are = refl; after_is = refl }

pub leaves_then : (lines mid left : NumberedLines) → Leaves lines mid → Leaves mid left → Leaves lines left
leaves_then lines mid left first next = record {
  prefix = first.prefix ++ next.prefix;
  lines_are = first.lines_are ∙ ap (λ rest. first.prefix ++ rest) next.lines_are ∙ sym (append_assoc first.prefix next.prefix left.lines);
  after_is = next.after_is ∙ first.after_is;
}

one_less : (lines : List NumberedLine) → (prefix : List NumberedLine) × (lines ≡ prefix ++ after lines)
one_less [] = ([], refl)
one_less (line ∷ lines) = (line ∷ [], refl)

pub leaves_past : (lines : NumberedLines) → Leaves lines (past lines)
leaves_past lines =
    let less = one_less lines.lines in
    record { prefix = less.0; lines_are = less.1; after_is = refl }

pub leaves_after : (lines mid left : NumberedLines) → Leaves lines mid → left ≡ past mid → Leaves lines left
leaves_after lines mid left leaves is = subst (Leaves lines) (sym is) (leaves_then lines mid (past mid) leaves (leaves_past mid))

from_later : (forms : List (List ℕ → Bool)) (lines : List NumberedLine) → (prefix : List NumberedLine) × (lines ≡ prefix ++ from_misfit forms lines)
from_later [] lines = ([], refl)
from_later (form ∷ forms) [] = ([], refl)
from_later (form ∷ forms) (line ∷ lines) = elim (form line.octets) as (λ fits. (prefix : List NumberedLine) × (line ∷ lines ≡ prefix ++ cond fits (from_misfit forms lines) (line ∷ lines))) [
  | true ↦ let later = from_later forms lines in (line ∷ later.0, ap (λ rest. line ∷ rest) later.1)
  | false ↦ ([], refl)
]

-- what comes after the first lines is left
pub leaves_rest : (forms : List (List ℕ → Bool)) (wanted : List (List Wanted)) (left rest : TextLeft) → HaveForms forms wanted left rest → Leaves (numbered_left left) (numbered_left rest)
leaves_rest forms wanted left rest have =
    let later = from_later (forms ++ []) (lines_left left) in
    record { prefix = later.0; lines_are = later.1 ∙ ap (λ lines. later.0 ++ lines) (have.lines []); after_is = have.after }

-- the lines that are left, by their count
pub last_are : (lines left : NumberedLines) → Leaves lines left → last_lines (length (octets_of left.lines)) lines.lines ≡ left.lines
last_are lines left leaves =
    ap (λ all. last_lines (length (octets_of left.lines)) all) leaves.lines_are
    ∙ ap (λ n. drop n (leaves.prefix ++ left.lines)) (counted leaves.prefix left.lines)
    ∙ drop-append_seam leaves.prefix left.lines
  where
    counted : (prefix left : List NumberedLine) → length (prefix ++ left) - length (octets_of left) ≡ length prefix
    counted prefix left = grind (arith, length-append, length-map)

pub ruleset last = (leaves_all, leaves_then, leaves_past)
