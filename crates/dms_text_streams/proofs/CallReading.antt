-- What is read of a line's first word and of its end, whichever calls there are.
use Rattle.std.proofs.Common.{◌≡◌, ℕ, cond, List, [], ◌∷◌, Option, Some, None, refl, sym, subst}
use Rattle.std.proofs.lemmas.Option.{same_Some}
use Rattle.dms_text.specs.Reading.{is_end}

-- a call that is a keyword alone, by the words that spell each call
pub bare_found : {A : Type 0} (Spells : A → List (List ℕ) → Type 0) (keyword word : List ℕ) (bare call : A) (words : List (List ℕ))
    → word ≡ keyword → cond (is_end words) (Some bare) None ≡ Some call → Spells bare (keyword ∷ []) → Spells call (word ∷ words)
bare_found Spells keyword word bare call [] is e spelled =
    subst (λ w. Spells call (w ∷ [])) (sym is) (subst (λ c. Spells c (keyword ∷ [])) (same_Some _ _ e) spelled)
bare_found Spells keyword word bare call (other ∷ words) is e spelled = absurd (let none : None ≡ Some call = e in cc)

-- where nothing can be read, nothing is
pub nothing_found : {A : Type 0} (found : Option A) → ((x : A) → found ≡ Some x → ⊥) → found ≡ None
nothing_found None never = refl
nothing_found (Some x) never = absurd (never x refl)
