-- The numbers of the ledger's entries rise.
use Rattle.std.proofs.Common.{◌≡◌, ℕ, zero, suc, ◌+◌, ◌-◌, ◌<◌, ◌≤◌, Bool, true, false, if◌then◌else◌, List, [], ◌∷◌, ◌++◌, map, length, slice_get, Some, refl, sym, ap, subst, arith}
use Rattle.std.proofs.lemmas.Option.{none-some}
use Rattle.std.proofs.lemmas.List.Elements.{All-cons, All-head}
use Rattle.dms_centre.specs.declared.ledger.Entry.{Entry as CodeEntry}
use Rattle.dms_centre.specs.declared.outcome.Outcome.{Outcome}
use Rattle.dms_centre.specs.State.{Entry}
use Rattle.dms_centre.specs.CodeView.{ledger_model}
use Rattle.dms_centre.specs.Restoring.{number_after}
use Rattle.dms_centre.specs.Invariant.{AllBelow, Rise}

pub number_stays : (b : Bool) (outcome : Outcome) (entry : Entry) → (if b then record entry { outcome = outcome } else entry).number ≡ entry.number
number_stays true outcome entry = refl
number_stays false outcome entry = refl

-- ---- a request goes out

rise_more : (least next : ℕ) (ledger : List Entry) → Rise least next ledger → Rise least (next + 1) ledger
rise_more least next [] rise = omega (arith, rise)
rise_more least next (entry ∷ ledger) rise = (rise.0, rise_more (entry.number + 1) next ledger rise.1)

rise_push : (least next : ℕ) (ledger : List Entry) (entry : Entry) → Rise least next ledger → entry.number ≡ next → Rise least (next + 1) (ledger ++ entry ∷ [])
rise_push least next [] entry rise is = (omega (arith, rise, is), omega (arith, is))
rise_push least next (first ∷ ledger) entry rise is = (rise.0, rise_push (first.number + 1) next ledger entry rise.1 is)

pub rise_if : (b : Bool) (next : ℕ) (ledger : List Entry) (entry : Entry) → Rise 0 next ledger → entry.number ≡ next
    → Rise 0 (next + 1) (if b then ledger ++ entry ∷ [] else ledger)
rise_if true next ledger entry rise is = rise_push 0 next ledger entry rise is
rise_if false next ledger entry rise is = rise_more 0 next ledger rise

-- ---- what waits is settled

pub rise_still : (test : Entry → Bool) (outcome : Outcome) (least next : ℕ) (ledger : List Entry) → Rise least next ledger
    → Rise least next (map (λ (entry : Entry). if test entry then record entry { outcome = outcome } else entry) ledger)
rise_still test outcome least next [] rise = rise
rise_still test outcome least next (entry ∷ ledger) rise =
    let same = number_stays (test entry) outcome entry in (
      omega (arith, rise.0, same),
      subst (λ n. Rise (n + 1) next (map (λ (entry : Entry). if test entry then record entry { outcome = outcome } else entry) ledger)) (sym same)
          (rise_still test outcome (entry.number + 1) next ledger rise.1),
    )

-- ---- an entry comes behind those that are there

-- a number that is not below that after the last is above each
pub below_after : (least next number : ℕ) (ledger : List Entry) → Rise least next ledger → number_after ledger ≤ number → AllBelow number ledger
below_after least next number [] rise after = λ k d h. absurd (omega arith)
below_after least next number (entry ∷ []) rise after =
    All-cons (λ (e : Entry). e.number < number) entry [] (omega (arith, after)) (λ k d h. absurd (omega arith))
below_after least next number (entry ∷ other ∷ ledger) rise after =
    let rest = below_after (entry.number + 1) next number (other ∷ ledger) rise.1 after in
    let above = All-head (λ (e : Entry). e.number < number) other ledger rest in
    All-cons (λ (e : Entry). e.number < number) entry (other ∷ ledger) (omega (arith, above, rise.1.0)) rest

push_behind : (least next : ℕ) (first : Entry) (ledger : List Entry) (entry : Entry) → Rise least next (first ∷ ledger)
    → number_after (first ∷ ledger) ≤ entry.number → entry.number < next → Rise least next (first ∷ ledger ++ entry ∷ [])
push_behind least next first [] entry rise after below = (rise.0, (after, omega (arith, below)))
push_behind least next first (other ∷ ledger) entry rise after below =
    (rise.0, push_behind (first.number + 1) next other ledger entry rise.1 after below)

pub rise_behind : (next : ℕ) (ledger : List Entry) (entry : Entry) → Rise 0 next ledger → number_after ledger ≤ entry.number → entry.number < next
    → Rise 0 next (ledger ++ entry ∷ [])
rise_behind next [] entry rise after below = (omega arith, omega (arith, below))
rise_behind next (first ∷ ledger) entry rise after below = push_behind 0 next first ledger entry rise after below

-- ---- the last entry

after_at : (es : List (ℕ × CodeEntry)) (n : ℕ) (number : ℕ) (entry : CodeEntry) → n + 1 ≡ length es → slice_get es n ≡ Some (number, entry)
    → number + 1 ≡ number_after (ledger_model es)
after_at [] n number entry is last = absurd (omega arith)
after_at (e ∷ []) zero number entry is last =
    let same : e ≡ (number, entry) = cc in
    ap (λ (e : ℕ × CodeEntry). e.0 + 1) (sym same)
after_at (e ∷ []) (suc n) number entry is last = absurd (omega arith)
after_at (e ∷ next ∷ es) zero number entry is last = absurd (omega arith)
after_at (e ∷ next ∷ es) (suc n) number entry is last = after_at (next ∷ es) n number entry (omega arith) last

pub after_last : (es : List (ℕ × CodeEntry)) (number : ℕ) (entry : CodeEntry) → Some (number, entry) ≡ slice_get es (length es - 1)
    → number + 1 ≡ number_after (ledger_model es)
after_last [] number entry last = absurd (none-some (number, entry) (sym last))
after_last (e ∷ es) number entry last = after_at (e ∷ es) (length (e ∷ es) - 1) number entry (omega arith) (sym last)
