-- The outcomes of a text, one after another.
use Rattle.std.proofs.Common.{◌≡◌, ℕ, zero, suc, ◌<◌, ◌≤◌, List, [], ◌∷◌, length, Result, Ok, refl, ◌∙◌, arith}
use Rattle.dms_multi.specs.declared.fault.FaultCode.{FaultCode}
use Rattle.dms_multi.specs.declared.item.Item.{Item}
use Rattle.dms_multi.specs.Grammar.{Outcome}
use Rattle.dms_multi.specs.Outcomes.{spot, with_outcome, outcomes_within, outcomes_from}
use Rattle.dms_multi.specs.TagReading.{item_at}
use Rattle.dms_multi.proofs.Readings.{shorter}

pub outcomes_none : (end : ℕ) (text : List ℕ) → length text ≡ 0 → outcomes_from end text ≡ []
unfolding outcomes_within
outcomes_none end text p = grind arith

-- more steps than octets change nothing
same_with : (end : ℕ) (text : List ℕ) (r : Result (Item × List ℕ) FaultCode) (f g : List ℕ → List Outcome) → ((x : Item × List ℕ) → r ≡ Ok x → f x.1 ≡ g x.1) → with_outcome end text r f ≡ with_outcome end text r g
same_with end text r f g same = grind arith

same_steps : (j k end : ℕ) (text : List ℕ) → length text ≤ j → length text ≤ k → outcomes_within j end text ≡ outcomes_within k end text
unfolding outcomes_within
same_steps zero zero end text first second = refl
same_steps zero (suc k) end [] first second = refl
same_steps zero (suc k) end (c ∷ cs) first second = absurd (omega arith)
same_steps (suc j) zero end [] first second = refl
same_steps (suc j) zero end (c ∷ cs) first second = absurd (omega arith)
same_steps (suc j) (suc k) end [] first second = refl
same_steps (suc j) (suc k) end (c ∷ cs) first second =
    same_with end (c ∷ cs) (item_at (c ∷ cs)) (outcomes_within j end) (outcomes_within k end)
    (λ x e. let less : length x.1 < length (c ∷ cs) = shorter (c ∷ cs) x e in same_steps j k end x.1 (omega arith) (omega arith))

step : (end : ℕ) (text : List ℕ) (r : Result (Item × List ℕ) FaultCode) → 0 < length text → item_at text ≡ r → outcomes_from end text ≡ with_outcome end text r (outcomes_from end)
unfolding outcomes_within
step end text r some e = grind (arith, same_with, shorter, same_steps)

pub outcomes_ok : (end : ℕ) (text : List ℕ) (x : Item × List ℕ) → 0 < length text → item_at text ≡ Ok x → outcomes_from end text ≡ Ok (spot end text x) ∷ outcomes_from end x.1
outcomes_ok end text x some e = step end text (Ok x) some e
