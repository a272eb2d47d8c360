-- What becomes of the ledger: an entry comes last, or the one that waits is settled.
use Rattle.std.proofs.Common.{◌≡◌, ℕ, ◌+◌, ◌<◌, ◌^◌, ◌==◌, Bool, true, false, if◌then◌else◌, List, [], ◌∷◌, ◌++◌, map, refl, sym, ap, subst, ◌∙◌, append-nil, arith}
use Rattle.std.specs.List.{AllByRecursion}
use Rattle.std.proofs.lemmas.Bool.{eq-eqb}
use Rattle.dms_codes.specs.declared.codes.Activation.{Activation}
use Rattle.dms_centre_jobs.specs.Requests.{AreSettings}
use Rattle.dms_centre_jobs.specs.Steps.{is_activating, code_of}
use Rattle.dms_centre_jobs.specs.Job.{Job}
use Rattle.dms_centre.specs.declared.outcome.Outcome.{Outcome}
use Rattle.dms_centre.specs.declared.outcome.Outcome.TheVariants.{Waiting}
use Rattle.dms_centre.specs.State.{Pending, Phase, Idle, Awaits, Due, Entry, CentreState}
use Rattle.dms_centre.specs.Replies.{with_outcome, decided}
use Rattle.dms_centre.specs.Resending.{is_waiting, given_up, gives_up}
use Rattle.dms_centre.specs.Invariant.{Rise}
use Rattle.dms_centre.proofs.Rising.{rise_still}
use Rattle.dms_centre_state.specs.Reached.{IsEntry, IsOutcome, is_settled, waiting_entries, IsLedgerOf, IsReached}

-- ---- one entry

still_entry : (b : Bool) (outcome : Outcome) (entry : Entry) → IsOutcome outcome → IsEntry entry → IsEntry (if b then record entry { outcome = outcome } else entry)
still_entry true outcome entry is_outcome is = record { code = is.code; outcome = is_outcome }
still_entry false outcome entry is_outcome is = is

still_settled : (b : Bool) (outcome : Outcome) (entry : Entry) → is_waiting outcome ≡ false → is_settled entry → is_settled (if b then record entry { outcome = outcome } else entry)
still_settled true outcome entry settled is = settled
still_settled false outcome entry settled is = is

-- ---- all of them

all_push : {A : Type 0} (P : A → Type 0) (xs : List A) (x : A) → AllByRecursion P xs → P x → AllByRecursion P (xs ++ x ∷ [])
all_push P [] x all one = (one, tt)
all_push P (y ∷ xs) x all one = (all.0, all_push P xs x all.1 one)

pub entries_if : (b : Bool) (ledger : List Entry) (entry : Entry) → AllByRecursion IsEntry ledger → IsEntry entry
    → AllByRecursion IsEntry (if b then ledger ++ entry ∷ [] else ledger)
entries_if true ledger entry all one = all_push IsEntry ledger entry all one
entries_if false ledger entry all one = all

pub waits_if : (b : Bool) (ledger : List Entry) (entry : Entry) → (if b then ledger ++ entry ∷ [] else ledger) ≡ ledger ++ (if b then entry ∷ [] else [])
waits_if true ledger entry = refl
waits_if false ledger entry = sym (append-nil ledger)

module _ (test : Entry → Bool) (outcome : Outcome) where
  abbrev settles : Entry → Entry
  settles entry = if test entry then record entry { outcome = outcome } else entry

  entries_still : (ledger : List Entry) → IsOutcome outcome → AllByRecursion IsEntry ledger → AllByRecursion IsEntry (map settles ledger)
  entries_still [] is_outcome all = tt
  entries_still (entry ∷ ledger) is_outcome all = (still_entry (test entry) outcome entry is_outcome all.0, entries_still ledger is_outcome all.1)

  settled_still : (settled waiting : List Entry) → is_waiting outcome ≡ false → AllByRecursion is_settled settled → AllByRecursion is_settled (map settles waiting)
      → AllByRecursion is_settled (map settles (settled ++ waiting))
  settled_still [] waiting known all last = last
  settled_still (entry ∷ settled) waiting known all last = (still_settled (test entry) outcome entry known all.0, settled_still settled waiting known all.1 last)

-- ---- a state in which no entry waits

pub record Settles (state : CentreState) : Type 0 where
  pub settings : AreSettings state.settings
  pub next : state.next < 2 ^ 32
  pub rise : Rise 0 state.next state.ledger
  pub entries : AllByRecursion IsEntry state.ledger
  pub settled : AllByRecursion is_settled state.ledger

-- where no activation waits
pub settles_rest : (state : CentreState) (phase : Phase) → IsReached state → IsLedgerOf state.next phase state.ledger → waiting_entries phase ≡ [] → Settles state
settles_rest state phase reached ledger none = record {
  settings = reached.settings;
  next = reached.next;
  rise = ledger.rise;
  entries = ledger.entries;
  settled =
      subst (AllByRecursion is_settled) (sym (ledger.is ∙ ap (λ waiting. ledger.settled ++ waiting) none ∙ append-nil ledger.settled)) ledger.are_settled;
}

same_is : (n : ℕ) → (n == n) ≡ true
same_is n = eq-eqb n n refl

-- the one that waits is decided
waiting_decided : (b : Bool) (number : ℕ) (code : Activation) (outcome : Outcome) → is_waiting outcome ≡ false
    → AllByRecursion is_settled (map (with_outcome number outcome) (if b then record { number = number; code = code; outcome = Waiting } ∷ [] else []))
waiting_decided true number code outcome known =
    (subst (λ b. is_settled (if b then record { number = number; code = code; outcome = outcome } else record { number = number; code = code; outcome = Waiting })) (sym (same_is number)) known, tt)
waiting_decided false number code outcome known = tt

pub settles_decided : (state : CentreState) (job : Job) (pending : Pending) (outcome : Outcome) → IsReached state → IsLedgerOf state.next (Awaits job pending) state.ledger
    → is_waiting outcome ≡ false → IsOutcome outcome → Settles (decided state pending.number outcome)
settles_decided state job pending outcome reached ledger known is_outcome = record {
  settings = reached.settings;
  next = reached.next;
  rise = rise_still (λ entry. entry.number == pending.number) outcome 0 state.next state.ledger ledger.rise;
  entries = entries_still (λ entry. entry.number == pending.number) outcome state.ledger is_outcome ledger.entries;
  settled =
      subst (λ ledger. AllByRecursion is_settled (map (with_outcome pending.number outcome) ledger)) (sym ledger.is)
      (settled_still (λ entry. entry.number == pending.number) outcome ledger.settled (waiting_entries (Awaits job pending)) known ledger.are_settled
      (waiting_decided (is_activating job.step) pending.number (code_of job.work) outcome known));
}

-- it is given up
waiting_given_up : (b : Bool) (number : ℕ) (code : Activation) (outcome : Outcome) → is_waiting outcome ≡ false
    → AllByRecursion is_settled (map (given_up outcome) (if b then record { number = number; code = code; outcome = Waiting } ∷ [] else []))
waiting_given_up true number code outcome known = (known, tt)
waiting_given_up false number code outcome known = tt

phase_given_up : (phase : Phase) (outcome : Outcome) → is_waiting outcome ≡ false → AllByRecursion is_settled (map (given_up outcome) (waiting_entries phase))
phase_given_up Idle outcome known = tt
phase_given_up (Awaits job pending) outcome known = waiting_given_up (is_activating job.step) pending.number (code_of job.work) outcome known
phase_given_up (Due job) outcome known = tt

pub settles_given_up : (state : CentreState) (phase : Phase) (outcome : Outcome) → IsReached state → IsLedgerOf state.next phase state.ledger
    → is_waiting outcome ≡ false → IsOutcome outcome → Settles (gives_up state outcome)
settles_given_up state phase outcome reached ledger known is_outcome = record {
  settings = reached.settings;
  next = reached.next;
  rise = rise_still (λ entry. is_waiting entry.outcome) outcome 0 state.next state.ledger ledger.rise;
  entries = entries_still (λ entry. is_waiting entry.outcome) outcome state.ledger is_outcome ledger.entries;
  settled =
      subst (λ ledger. AllByRecursion is_settled (map (given_up outcome) ledger)) (sym ledger.is)
      (settled_still (λ entry. is_waiting entry.outcome) outcome ledger.settled (waiting_entries phase) known ledger.are_settled (phase_given_up phase outcome known));
}
