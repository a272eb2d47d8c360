-- What number a word spells is what is read of it.
use Rattle.std.proofs.Common.{◌≡◌, ℕ, ◌≤◌, ◌==◌, ◌&&◌, true, cond, List, [], ◌∷◌, length, Some, None, refl, sym, ap, ◌∙◌, inl, inr}
use Rattle.std.specs.Prelude.{nat_le, nat_lt}
use Rattle.std.specs.Char.{is_digit}
use Rattle.std.specs.List.{list_all}
use Rattle.std.specs.Str.Parse.{AllDigits, digits_value}
use Rattle.std.proofs.lemmas.Bool.{and_parts, and_from, ltb-true, leb-true, lt-ltb, le-leb, eqb-true, eq-eqb, cases_Bool}
use Rattle.std.proofs.lemmas.Option.{cond_some}
use Rattle.dms_text.specs.Numbers.{SpellsNumber, SpellsVersion}
use Rattle.dms_text.specs.Reading.{number_of, within, version_of}

pub digits_each : (base : ℕ) (text : List ℕ) → list_all (λ c. is_digit c base) text ≡ true → AllDigits base text
digits_each base [] e = tt
digits_each base (c ∷ cs) e = let both = and_parts _ _ e in (ltb-true _ _ both.0, digits_each base cs both.1)

pub digits_test : (base : ℕ) (text : List ℕ) → AllDigits base text → list_all (λ c. is_digit c base) text ≡ true
digits_test base [] all = refl
digits_test base (c ∷ cs) all = and_from _ _ (lt-ltb _ _ all.0) (digits_test base cs all.1)

pub number_found : (base most number : ℕ) (word : List ℕ) → number_of base most word ≡ Some number → SpellsNumber base most number word
unfolding number_of
number_found base most number word e =
    let tests = cond_some _ _ _ e in
    let parts = and_parts _ _ tests.0 in
    let more = and_parts _ _ parts.1 in
    record { numeral = (ltb-true _ _ parts.0, digits_each base word more.1); few = leb-true _ _ more.0; value = sym tests.1 }

pub number_only : (base most number : ℕ) (word : List ℕ) → SpellsNumber base most number word → number_of base most word ≡ Some number
unfolding number_of
number_only base most number word spelled =
    let test : (nat_lt 0 (length word) && (nat_le (length word) most && list_all (λ octet. is_digit octet base) word)) ≡ true =
    and_from _ _ (lt-ltb _ _ spelled.numeral.0) (and_from _ _ (le-leb _ _ spelled.few) (digits_test base word spelled.numeral.1)) in
    ap (λ b. cond b (Some (digits_value base word)) None) test ∙ ap Some (sym spelled.value)

pub within_found : (low high number inside : ℕ) → within low high number ≡ Some inside → (number ≡ inside) × (low ≤ number) × (number ≤ high)
within_found low high number inside e =
    let tests = cond_some _ _ _ e in
    let parts = and_parts _ _ tests.0 in
    (tests.1, leb-true _ _ parts.0, leb-true _ _ parts.1)

pub within_only : (low high number : ℕ) → low ≤ number → number ≤ high → within low high number ≡ Some number
within_only low high number least greatest = ap (λ b. cond b (Some number) None) (and_from _ _ (le-leb _ _ least) (le-leb _ _ greatest))

pub version_found : (number : ℕ) (word : List ℕ) → version_of word ≡ Some number → SpellsVersion number word
unfolding version_of
version_found number word e =
    elim (cases_Bool (length word == 4)) [
      | inl four ↦ record { spelled = number_found 16 4 number word (ap (λ b. cond b (number_of 16 4 word) None) (sym four) ∙ e); four = eqb-true _ _ four }
      | inr other ↦ let none : None ≡ Some number = ap (λ b. cond b (number_of 16 4 word) None) (sym other) ∙ e in absurd (cc)
    ]

pub version_only : (number : ℕ) (word : List ℕ) → SpellsVersion number word → version_of word ≡ Some number
unfolding version_of
version_only number word spelled = ap (λ b. cond b (number_of 16 4 word) None) (eq-eqb _ _ spelled.four) ∙ number_only 16 4 number word spelled.spelled
