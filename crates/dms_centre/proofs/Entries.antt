-- The entries of the ledger, in the map of the code and in the list of the definitions.
use Rattle.std.proofs.Common.{◌≡◌, ℕ, zero, suc, ◌+◌, ◌<◌, Bool, true, false, if◌then◌else◌, List, [], ◌∷◌, ◌++◌, map, length, get_or, slice_get, position, None, Some, Result, Ok, OnOk, All, refl, ap, sym, subst, ◌∙◌, arith, nat_eq}
use Rattle.std.proofs.lemmas.Bool.Decides.{nat_tests}
use Rattle.std.proofs.lemmas.List.Elements.{All-head, All-tail}
use Rattle.std.proofs.lemmas.List.Quantifiers.{position-Some}
use Rattle.std.specs.List.{AllByRecursion, IsDistinct}
use Rattle.std.specs.Map.{keys_of, values_of}
use Rattle.indexmap.specs.IndexMap.{insert_entry, set_value_at}
use Rattle.dms_codes.proofs.Loops.{none_passes}
use Rattle.dms_centre.specs.declared.ledger.Entry.{Entry}
use Rattle.dms_centre.specs.declared.outcome.Outcome.{Outcome}
use Rattle.dms_centre.specs.State as state
use Rattle.dms_centre.specs.Replies.{with_outcome}
use Rattle.dms_centre.specs.Resending.{is_waiting, given_up}
use Rattle.dms_centre.specs.CodeView.{entry_model, ledger_model, entry_given_up}
use Rattle.dms_centre.specs.Invariant.{AllBelow, OnlyLastWaits}

-- ---- a new entry

other_number : (n k : ℕ) → n < k → nat_eq k n ≡ false
other_number n k less = grind (arith, nat_tests, less)

-- a new number goes last
pub inserted : (es : List (ℕ × Entry)) (number : ℕ) (entry : Entry) → AllBelow number (ledger_model es)
    → ledger_model (insert_entry nat_eq es number entry) ≡ ledger_model es ++ entry_model (number, entry) ∷ []
inserted [] number entry below = refl
inserted (e ∷ es) number entry below =
    let other : nat_eq number e.0 ≡ false = other_number e.0 number (All-head (λ (x : state.Entry). x.number < number) (entry_model e) (ledger_model es) below) in
    let rest = inserted es number entry (All-tail (λ (x : state.Entry). x.number < number) (entry_model e) (ledger_model es) below) in
    ap (λ b. ledger_model (if b then (e.0, entry) ∷ es else e ∷ insert_entry nat_eq es number entry)) other ∙ ap (λ xs. entry_model e ∷ xs) rest

pub on_ok : {A E : Type 0} (r : Result A E) (x : A) (P : Type 0) → r ≡ Ok x → OnOk r P → P
on_ok r x P is h = subst (λ r. OnOk r P) is h

-- ---- every entry that waits

seen_one : (b : Bool) (number : ℕ) (outcome : Outcome) (entry : Entry)
    → ◌≡◌ {A = state.Entry} (entry_model (number, (if b then record entry { outcome = outcome } else entry)))
    (if b then record { number = number; code = entry.code; outcome = outcome } else entry_model (number, entry))
seen_one true number outcome entry = refl
seen_one false number outcome entry = refl

settled_stays : (outcome : Outcome) (entry : state.Entry) → is_waiting entry.outcome ≡ false → entry ≡ given_up outcome entry
settled_stays outcome entry settled = sym (ap (λ b. if b then record entry { outcome = outcome } else entry) settled)

-- where the last has the outcome, if it waits
pub given_up_last : (outcome : Outcome) (es : List (ℕ × Entry)) (n : ℕ) (old new : Entry) → OnlyLastWaits (ledger_model es) → n + 1 ≡ length es
    → slice_get (values_of es) n ≡ Some old → new ≡ entry_given_up outcome old → ledger_model (set_value_at es n new) ≡ map (given_up outcome) (ledger_model es)
given_up_last outcome [] n old new only last read is = absurd (omega arith)
given_up_last outcome (e ∷ []) zero old new only last read is =
    let entries : e.1 ≡ old = cc in
    ap (λ (entry : Entry). entry_model (e.0, entry) ∷ []) (is ∙ ap (entry_given_up outcome) (sym entries))
    ∙ ap (λ (entry : state.Entry). entry ∷ []) (seen_one (is_waiting e.1.outcome) e.0 outcome e.1)
given_up_last outcome (e ∷ []) (suc n) old new only last read is = absurd (omega arith)
given_up_last outcome (e ∷ next ∷ es) zero old new only last read is = absurd (omega arith)
given_up_last outcome (e ∷ next ∷ es) (suc n) old new only last read is =
    let first = settled_stays outcome (entry_model e) only.0 in
    let rest = given_up_last outcome (next ∷ es) n old new only.1 (omega arith) read is in
    cc

-- ---- the entry of a number

other_way : (m n : ℕ) → nat_eq m n ≡ false → nat_eq n m ≡ false
other_way m n other = grind (arith, nat_tests, other)

unchanged : (number : ℕ) (outcome : Outcome) (entry : state.Entry) → nat_eq number entry.number ≡ false → with_outcome number outcome entry ≡ entry
unchanged number outcome entry other = ap (λ b. if b then record entry { outcome = outcome } else entry) (other_way number entry.number other)

untouched : (number : ℕ) (outcome : Outcome) (es : List (ℕ × Entry)) → All (λ key. nat_eq number key ≡ false) (keys_of es)
    → map (with_outcome number outcome) (ledger_model es) ≡ ledger_model es
untouched number outcome [] each = refl
untouched number outcome (e ∷ es) each =
    let first = unchanged number outcome (entry_model e) (All-head (λ key. nat_eq number key ≡ false) e.0 (keys_of es) each) in
    let rest = untouched number outcome es (All-tail (λ key. nat_eq number key ≡ false) e.0 (keys_of es) each) in
    cc

pub decided_nowhere : (number : ℕ) (outcome : Outcome) (es : List (ℕ × Entry)) → position (nat_eq number) (keys_of es) ≡ None
    → ledger_model es ≡ map (with_outcome number outcome) (ledger_model es)
decided_nowhere number outcome es nowhere = sym (untouched number outcome es (none_passes (nat_eq number) (keys_of es) nowhere))

-- a key that stands further on is another one
further_on : (first number : ℕ) (ks : List ℕ) (i d : ℕ) → AllByRecursion (λ y. nat_eq first y ≡ false) ks → i < length ks
    → nat_eq number (get_or ks i d) ≡ true → nat_eq number first ≡ false
further_on first number [] i d others within is = absurd (omega arith)
further_on first number (k ∷ ks) zero d others within is = grind (arith, nat_tests, others.0, is)
further_on first number (k ∷ ks) (suc i) d others within is = further_on first number ks i d others.1 (omega arith) is

others_differ : (first number : ℕ) (es : List (ℕ × Entry)) → nat_eq number first ≡ true → AllByRecursion (λ y. nat_eq first y ≡ false) (keys_of es)
    → (outcome : Outcome) → map (with_outcome number outcome) (ledger_model es) ≡ ledger_model es
others_differ first number [] is others outcome = refl
others_differ first number (e ∷ es) is others outcome =
    let head = unchanged number outcome (entry_model e) (grind (arith, nat_tests, is, others.0)) in
    let rest = others_differ first number es is others.1 outcome in
    cc

changed : (number : ℕ) (outcome : Outcome) (key : ℕ) (entry old : Entry) → nat_eq number key ≡ true → Some entry ≡ Some old
    → entry_model (key, record old { outcome = outcome }) ≡ with_outcome number outcome (entry_model (key, entry))
changed number outcome key entry old is read =
    let same : nat_eq key number ≡ true = grind (arith, nat_tests, is) in
    let entries : entry ≡ old = cc in
    ap (λ (e : Entry). entry_model (key, record e { outcome = outcome })) (sym entries) ∙ sym (ap (λ b. if b then record (entry_model (key, entry)) { outcome = outcome } else entry_model (key, entry)) same)

-- the entry of this number gets its outcome
pub decided_at : (number : ℕ) (outcome : Outcome) (es : List (ℕ × Entry)) (i d : ℕ) (old : Entry) → IsDistinct nat_eq (keys_of es) → i < length (keys_of es)
    → nat_eq number (get_or (keys_of es) i d) ≡ true → slice_get (values_of es) i ≡ Some old
    → ledger_model (set_value_at es i (record old { outcome = outcome })) ≡ map (with_outcome number outcome) (ledger_model es)
unfolding IsDistinct
decided_at number outcome [] i d old distinct within is read = absurd (omega arith)
decided_at number outcome (e ∷ es) zero d old distinct within is read =
    let head = changed number outcome e.0 e.1 old is read in
    let rest = others_differ e.0 number es is distinct.0 outcome in
    cc
decided_at number outcome (e ∷ es) (suc i) d old distinct within is read =
    let head = unchanged number outcome (entry_model e) (further_on e.0 number (keys_of es) i d distinct.0 (omega arith) is) in
    let rest = decided_at number outcome es i d old distinct.1 (omega arith) is read in
    cc

-- where it was found
pub decided_found : (number : ℕ) (outcome : Outcome) (es : List (ℕ × Entry)) (i : ℕ) (old : Entry) → IsDistinct nat_eq (keys_of es)
    → position (nat_eq number) (keys_of es) ≡ Some i → slice_get (values_of es) i ≡ Some old
    → ledger_model (set_value_at es i (record old { outcome = outcome })) ≡ map (with_outcome number outcome) (ledger_model es)
decided_found number outcome es i old distinct found read =
    let at = position-Some (nat_eq number) (keys_of es) i 0 found in
    decided_at number outcome es i 0 old distinct at.0 at.1 read
