-- The end of a line, and words of which each is a keyword.
use Rattle.std.proofs.Common.{◌≡◌, ℕ, cond, List, [], ◌∷◌, Option, Some, sym, ap, ◌∙◌, arith, inl, inr}
use Rattle.std.proofs.lemmas.Bool.{cases_Bool}
use Rattle.std.proofs.lemmas.Option.{same_Some}
use Rattle.dms_text.specs.Reading.{same_octets}
use Rattle.dms_text.proofs.WordLaws.{same_found}
use Rattle.dms_text_forms.specs.FieldsReading.{if_last}

-- ---- the end of a line

pub last_found : {A : Type 0} (value : A) (words : List (List ℕ)) (found : A) → if_last value words ≡ Some found → (words ≡ []) × (value ≡ found)
last_found value [] found e = grind arith
last_found value (word ∷ words) found e = grind arith

-- ---- words of which each is a keyword

-- the word is this keyword, or what is read is read of another one
pub by_keyword : {A P : Type 0} (word keyword : List ℕ) (this others : Option A) (found : A) → cond (same_octets word keyword) this others ≡ Some found
    → (word ≡ keyword → this ≡ Some found → P) → (others ≡ Some found → P) → P
by_keyword word keyword this others found e here there =
    elim (cases_Bool (same_octets word keyword)) [
      | inl same ↦ here (same_found _ _ same) (ap (λ b. cond b this others) (sym same) ∙ e)
      | inr other ↦ there (ap (λ b. cond b this others) (sym other) ∙ e)
    ]

-- of a type whose values have a keyword each
pub by_text : {A : Type 0} (text_of : A → List ℕ) (word : List ℕ) (this found : A) (others : Option A)
    → cond (same_octets word (text_of this)) (Some this) others ≡ Some found → (others ≡ Some found → word ≡ text_of found) → word ≡ text_of found
by_text text_of word this found others e =
    by_keyword word (text_of this) (Some this) others found e (λ is same. is ∙ ap text_of (same_Some this found same))
