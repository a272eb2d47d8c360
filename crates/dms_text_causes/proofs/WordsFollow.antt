-- Words that are read one after another, and the fault of those that are wanted there.
use Rattle.std.proofs.Common.{◌≡◌, ℕ, ◌+◌, not, List, [], ◌∷◌, Option, Some, None, is_some, refl, sym, ap, ◌∙◌, arith}
use Rattle.std.specs.Prelude.{IsSome}
use Rattle.dms_text.specs.Reading.{word_at, decimal_at, ◌>>=◌}
use Rattle.dms_text_forms.specs.Form.{fault_from}
use Rattle.dms_text_forms.specs.FieldsReading.{octets_at}
use Rattle.dms_text_forms.specs.declared.fault.WordFault.{WordFault}
use Rattle.dms_text_forms.specs.declared.vocabulary.WordName.{WordName}
use Rattle.dms_text_forms.specs.declared.wanted.Wanted.{Wanted}
use Rattle.dms_text_forms.specs.declared.wanted.Wanted.TheVariants as wants

-- Something is read and words are left after it, of which the fault is that of all words; or nothing, and there is a
-- fault.
abbrev pub Follows : {A : Type 0} → (List (List ℕ) → Option WordFault) → Option (A × List (List ℕ)) → Option WordFault → Type 0
Follows after None fault = IsSome fault
Follows after (Some found) fault = fault ≡ after found.1

pub first_then : {A B : Type 0} (after last : List (List ℕ) → Option WordFault) (found : Option (A × List (List ℕ))) (next : A × List (List ℕ) → Option (B × List (List ℕ)))
    (fault : Option WordFault) → Follows after found fault → ((x : A × List (List ℕ)) → Follows last (next x) (after x.1)) → Follows last (found >>= next) fault
first_then after last None next fault first others = first
first_then after last (Some found) next fault first others = by_fault (next found) fault (after found.1) first (others found)
  where
    by_fault : {B : Type 0} (read : Option (B × List (List ℕ))) (fault other : Option WordFault) → fault ≡ other → Follows last read other → Follows last read fault
    by_fault None fault other same follows = grind (arith, same, follows)
    by_fault (Some read) fault other same follows = same ∙ follows

pub first_at_end : {A B : Type 0} (after : List (List ℕ) → Option WordFault) (found : Option (A × List (List ℕ))) (next : A × List (List ℕ) → Option B)
    (fault : Option WordFault) → Follows after found fault → ((x : A × List (List ℕ)) → is_some (next x) ≡ not (is_some (after x.1)))
    → is_some (found >>= next) ≡ not (is_some fault)
first_at_end after None next None first others = first
first_at_end after None next (Some fault) first others = refl
first_at_end after (Some found) next fault first others = others found ∙ ap (λ fault. not (is_some fault)) (sym first)

pub made_wanted : {A B : Type 0} (found : Option A) (make : A → B) → is_some (found >>= (λ x. Some (make x))) ≡ is_some found
made_wanted None make = refl
made_wanted (Some x) make = refl

-- ---- single words

pub number_follows : (low high place : ℕ) (more : List Wanted) (words : List (List ℕ))
    → Follows (fault_from (place + 1) more) (decimal_at 5 low high words) (fault_from place (wants.Number low high ∷ more) words)
unfolding fault_from decimal_at word_at
number_follows low high place more [] = grind arith
number_follows low high place more ([] ∷ words) = grind arith
number_follows low high place more ((octet ∷ octets) ∷ words) = grind arith

pub octets_follow : (name : WordName) (place : ℕ) (more : List Wanted) (words : List (List ℕ))
    → Follows (fault_from (place + 1) more) (octets_at words) (fault_from place (wants.Octets name ∷ more) words)
unfolding fault_from octets_at word_at
octets_follow name place more [] = grind arith
octets_follow name place more ([] ∷ words) = grind arith
octets_follow name place more ((octet ∷ octets) ∷ words) = grind arith
