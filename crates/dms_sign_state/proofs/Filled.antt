-- A text that is put into as many octets as it has.
use Rattle.std.proofs.Common.{◌≡◌, ℕ, List, ◌++◌, length, take, drop, refl, ap, ◌∙◌, append-nil, arith}
use Rattle.std.proofs.lemmas.List.{take_at, drop_all}
use Rattle.dms_text_filling.specs.Filling.{laid}
use Rattle.dms_text_filling.proofs.Laid.{laid_whole}

pub whole_text : (text before after items : List ℕ) (len : ℕ) → after ≡ laid 0 text before → length before ≡ length text → len ≡ length text
    → take len (after ++ drop (length after) items) ≡ text
whole_text text before after items len put room size =
    let whole : after ≡ text =
    put ∙ laid_whole text before (omega (arith, room)) ∙ ap (λ xs. text ++ xs) (drop_all (length text) before (omega (arith, room))) ∙ append-nil text in
    ap (λ n. take n (after ++ drop (length after) items)) size ∙ ap (λ xs. take (length text) (xs ++ drop (length xs) items)) whole
    ∙ take_at text (drop (length text) items) (length text) refl
