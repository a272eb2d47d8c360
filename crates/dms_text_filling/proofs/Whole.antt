-- A text that is put into as many octets as it has.
use Rattle.std.proofs.Common.{◌≡◌, ℕ, List, ◌++◌, length, take, drop, refl, ap, ◌∙◌, append-nil, arith, inl, inr}
use Rattle.std.proofs.lemmas.List.{take_at, drop_all}
use Rattle.std.proofs.lemmas.Bool.{cases_lt}
use Rattle.dms_text_filling.specs.Filling.{counted, laid, most_counted}
use Rattle.dms_text_filling.proofs.Laid.{laid_whole}

-- a count that did not stop
not_stopped : (n : ℕ) → (counted n ≡ most_counted → ⊥) → counted n ≡ n
not_stopped n less =
    elim (cases_lt n most_counted) [
      | inl below ↦ omega (arith, below)
      | inr top ↦ absurd (less (omega (arith, top)))
    ]

pub whole_text : (text before after items : List ℕ) (size len : ℕ) → size ≡ counted (length text) → (size ≡ most_counted → ⊥) → after ≡ laid 0 text before
    → length before ≡ size → len ≡ size → take len (after ++ drop (length after) items) ≡ text
whole_text text before after items size len counts less put room same =
    let exact : size ≡ length text = counts ∙ not_stopped (length text) (λ stopped. less (counts ∙ stopped)) in
    let whole : after ≡ text =
    put ∙ laid_whole text before (omega (arith, room, exact)) ∙ ap (λ xs. text ++ xs) (drop_all (length text) before (omega (arith, room, exact))) ∙ append-nil text in
    ap (λ n. take n (after ++ drop (length after) items)) (same ∙ exact) ∙ ap (λ xs. take (length text) (xs ++ drop (length xs) items)) whole
    ∙ take_at text (drop (length text) items) (length text) refl
