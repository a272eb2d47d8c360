-- What is appended in parts.
use Rattle.std.proofs.Common.{◌≡◌, ℕ, ℤ, List, [], ◌∷◌, ◌++◌, Option, Some, None, Result, Ok, Err, sym, ap, subst, ◌∙◌, append_assoc, SFits, w64, to_z, of_z}
use Rattle.std.specs.List.{flat_map}
use Rattle.std.proofs.lemmas.Int.{to_z-of_z}
use Rattle.std.proofs.lemmas.List.{append-nil}
use Rattle.dms_wire.specs.Message.{VarBind}
use Rattle.dms_multi.specs.declared.fault.SyntaxFault.{SyntaxFault}
use Rattle.dms_multi.specs.declared.spots.Spot.{Spot}
use Rattle.dms_multi.specs.Fault.{code_number}
use Rattle.dms_multi.specs.Outcomes.{fault_in}
use Rattle.signtool_print.specs.TextAnswers.{fault_line}
use Rattle.signtool_print.specs.ItemLines.{item_line, item_lines}
use Rattle.signtool_print.specs.DatagramLines.{binding_line, field_line}

pub two : (old between new first second : List ℕ) → between ≡ old ++ first → new ≡ between ++ second → new ≡ old ++ (first ++ second)
two old between new first second one other = other ∙ ap (λ xs. xs ++ second) one ∙ append_assoc old first second

pub three : (old one two new first second third : List ℕ) → one ≡ old ++ first → two ≡ one ++ second → new ≡ two ++ third → new ≡ old ++ (first ++ second ++ third)
three old one two new first second third a b c = c ∙ ap (λ xs. xs ++ third) (b ∙ ap (λ xs. xs ++ second) a) ∙ grouped old first second third
  where
    grouped : (old first second third : List ℕ) → ((old ++ first) ++ second) ++ third ≡ old ++ (first ++ second ++ third)
    grouped old first second third = simp append_assoc

pub field_written : (old new name : List ℕ) (z : ℤ) → SFits w64 z → new ≡ old ++ field_line name (to_z w64 (of_z w64 z)) → new ≡ old ++ field_line name z
field_written old new name z fits written = subst (λ (n : ℤ). new ≡ old ++ field_line name n) (to_z-of_z w64 z fits) written

pub ruleset two_parts = (two)

pub ruleset three_parts = (three)

-- ---- the items of a text

-- what is written and what the rest gives are the whole text
pub record IsListed (old now : List ℕ) (all rest : List (Result Spot SyntaxFault)) : Type 0 where
  pub lines : now ++ item_lines rest ≡ old ++ item_lines all
  pub fault : fault_in rest ≡ fault_in all

pub listed_starts : (old now : List ℕ) (all rest : List (Result Spot SyntaxFault)) → now ≡ old → rest ≡ all → IsListed old now all rest
listed_starts old now all rest same whole = record { lines = ap (λ xs. xs ++ item_lines rest) same ∙ ap (λ r. old ++ item_lines r) whole; fault = ap fault_in whole }

pub listed_more : (old now next : List ℕ) (spot : Spot) (all rest more : List (Result Spot SyntaxFault)) → rest ≡ Ok spot ∷ more → next ≡ now ++ item_line spot
    → IsListed old now all rest → IsListed old next all more
listed_more old now next spot all rest more is written so_far = record {
  lines = ap (λ xs. xs ++ item_lines more) written ∙ append_assoc now (item_line spot) (item_lines more)
      ∙ ap (λ r. now ++ item_lines r) (sym is) ∙ so_far.lines;
  fault = ap fault_in (sym is) ∙ so_far.fault;
}

pub listed_fault : (old now next : List ℕ) (fault : SyntaxFault) (all rest more : List (Result Spot SyntaxFault)) → rest ≡ Err fault ∷ more
    → next ≡ now ++ fault_line (code_number fault.code) fault.place → IsListed old now all rest
    → (next ≡ old ++ item_lines all) × (Some fault ≡ fault_in all)
listed_fault old now next fault all rest more is written so_far =
    (written ∙ ap (λ r. now ++ item_lines r) (sym is) ∙ so_far.lines, ap fault_in (sym is) ∙ so_far.fault)

pub listed_all : (old now : List ℕ) (all rest : List (Result Spot SyntaxFault)) → rest ≡ [] → IsListed old now all rest
    → (now ≡ old ++ item_lines all) × (◌≡◌ {A = Option SyntaxFault} None (fault_in all))
listed_all old now all rest is so_far =
    (sym (append-nil now) ∙ ap (λ r. now ++ item_lines r) (sym is) ∙ so_far.lines, ap fault_in (sym is) ∙ so_far.fault)

pub ruleset listing = (listed_starts, listed_more, listed_fault, listed_all)

-- ---- the bindings of a datagram

-- what is written and what the rest gives are the whole text
abbrev pub IsBound : (old now : List ℕ) (all rest : List VarBind) → Type 0
IsBound old now all rest = now ++ flat_map binding_line rest ≡ old ++ flat_map binding_line all

pub bound_starts : (old now : List ℕ) (all rest : List VarBind) → now ≡ old → rest ≡ all → IsBound old now all rest
bound_starts old now all rest same whole = ap (λ xs. xs ++ flat_map binding_line rest) same ∙ ap (λ r. old ++ flat_map binding_line r) whole

pub bound_more : (old now next : List ℕ) (binding : VarBind) (all rest more : List VarBind) → rest ≡ binding ∷ more → next ≡ now ++ binding_line binding
    → IsBound old now all rest → IsBound old next all more
bound_more old now next binding all rest more is written so_far =
    ap (λ xs. xs ++ flat_map binding_line more) written ∙ append_assoc now (binding_line binding) (flat_map binding_line more)
    ∙ ap (λ r. now ++ flat_map binding_line r) (sym is) ∙ so_far

pub bound_all : (old now : List ℕ) (all rest : List VarBind) → rest ≡ [] → IsBound old now all rest → now ≡ old ++ flat_map binding_line all
bound_all old now all rest is so_far = sym (append-nil now) ∙ ap (λ r. now ++ flat_map binding_line r) (sym is) ∙ so_far

pub ruleset bindings = (bound_starts, bound_more, bound_all)
