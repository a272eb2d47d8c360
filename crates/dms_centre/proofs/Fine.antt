-- What holds of a central system between its calls holds after each.
use Rattle.std.proofs.Common.{◌≡◌, ℕ, ◌+◌, ◌<◌, ◌≤◌, ◌==◌, Bool, true, false, if◌then◌else◌, List, [], ◌∷◌, ◌++◌, map, length, Some, refl, ap, sym, ◌∙◌, subst, arith}
use Rattle.std.proofs.lemmas.List.Elements.{All-cons, All-head, All-tail, All-append}
use Rattle.std.proofs.lemmas.Bool.{false≢true}
use Rattle.std.proofs.lemmas.Bool.Decides.{nat_tests}
use Rattle.dms_wire.specs.Message.{SnmpMessage}
use Rattle.dms_wire_ber.specs.Element.{element}
use Rattle.dms_wire.specs.Canonical.{canonical}
use Rattle.dms_centre_jobs.specs.declared.job.Job.{Job as CodeJob}
use Rattle.dms_centre.specs.declared.pending.Pending.{Pending as CodePending}
use Rattle.dms_centre.specs.declared.stage.Stage.{Stage}
use Rattle.dms_centre.specs.declared.stage.Stage.TheVariants as stages
use Rattle.dms_centre.specs.declared.outcome.Outcome.{Outcome}
use Rattle.dms_centre.specs.declared.ended.Ended.{Ended}
use Rattle.dms_centre_jobs.specs.declared.step.Step.TheVariants.{Explaining}
use Rattle.dms_centre_jobs.specs.Job.{Job}
use Rattle.dms_centre.specs.State.{Pending, Phase, Idle, Awaits, Due, Entry, CentreState, is_busy}
use Rattle.dms_centre_jobs.specs.Steps.{is_activating}
use Rattle.dms_centre.specs.Sending.{entered}
use Rattle.dms_centre.specs.Replies.{with_outcome, most_polls}
use Rattle.dms_centre.specs.Resending.{given_up, is_waiting}
use Rattle.dms_centre_jobs.specs.Requests.{IsWork}
use Rattle.dms_centre.specs.CodeView.{sent_in, phase_model}
use Rattle.dms_centre.specs.ByPhase.{is_awaiting, awaits_activation}
use Rattle.dms_centre.proofs.Rising.{rise_if, rise_still}
use Rattle.dms_centre.specs.Invariant.{AllBelow, Rise, IsState, IsPhase, IsPending}
use Rattle.dms_centre.specs.Invariant.{NoneWaits, WaitsAsLast, OnlyLastWaits, OneWaits, WaitsWith, HasWaiting}

-- ---- the ledger

pub begins : (next : ℕ) → AllBelow next []
begins next = λ k d h. absurd (omega arith)

pub begins_rising : (next : ℕ) → Rise 0 next []
begins_rising next = omega arith

same_number : (b : Bool) (outcome : Outcome) (entry : Entry) → (if b then record entry { outcome = outcome } else entry).number ≡ entry.number
same_number true outcome entry = refl
same_number false outcome entry = refl

pub given_up_below : (next : ℕ) (outcome : Outcome) (ledger : List Entry) → AllBelow next ledger → AllBelow next (map (given_up outcome) ledger)
given_up_below next outcome [] below = below
given_up_below next outcome (entry ∷ ledger) below =
    let first = All-head (λ (e : Entry). e.number < next) entry ledger below in
    let rest = given_up_below next outcome ledger (All-tail (λ (e : Entry). e.number < next) entry ledger below) in
    All-cons (λ (e : Entry). e.number < next) (given_up outcome entry) (map (given_up outcome) ledger) (omega (arith, first, same_number (is_waiting entry.outcome) outcome entry)) rest

below_more : (next : ℕ) (ledger : List Entry) → AllBelow next ledger → AllBelow (next + 1) ledger
below_more next ledger below = λ k d within. omega (arith, below k d within)

below_if : (b : Bool) (next : ℕ) (ledger : List Entry) (entry : Entry) → AllBelow next ledger → entry.number ≡ next
    → AllBelow (next + 1) (if b then ledger ++ entry ∷ [] else ledger)
below_if true next ledger entry below is =
    All-append (λ (e : Entry). e.number < next + 1) ledger (entry ∷ []) (below_more next ledger below)
    (All-cons (λ (e : Entry). e.number < next + 1) entry [] (omega (arith, is)) (λ k d h. absurd (omega arith)))
below_if false next ledger entry below is = below_more next ledger below

-- ---- which entries wait

pub none_begins : NoneWaits []
none_begins = λ k d h. absurd (omega arith)

-- unless an activation waits for its reply
pub none_waits : (phase : Phase) (ledger : List Entry) → awaits_activation phase ≡ false → HasWaiting phase ledger → NoneWaits ledger
none_waits Idle ledger other has = has
none_waits (Awaits job pending) ledger other has = subst (λ b. WaitsWith b pending.number ledger) other has
none_waits (Due job) ledger other has = has

none_last : (entry : Entry) (ledger : List Entry) → is_waiting entry.outcome ≡ false → WaitsAsLast entry ledger
none_last entry [] settled = tt
none_last entry (next ∷ ledger) settled = settled

none_only : (ledger : List Entry) → NoneWaits ledger → OnlyLastWaits ledger
none_only [] none = tt
none_only (entry ∷ ledger) none =
    let settled = All-head (λ (e : Entry). is_waiting e.outcome ≡ false) entry ledger none in
    let rest = none_only ledger (All-tail (λ (e : Entry). is_waiting e.outcome ≡ false) entry ledger none) in
    (none_last entry ledger settled, rest)

none_one : (number : ℕ) (ledger : List Entry) → NoneWaits ledger → OneWaits number ledger
none_one number ledger none = λ k d within waits. absurd (false≢true (sym (none k d within) ∙ waits))

none_with : (b : Bool) (number : ℕ) (ledger : List Entry) → NoneWaits ledger → WaitsWith b number ledger
none_with true number ledger none = (none_only ledger none, none_one number ledger none)
none_with false number ledger none = none

-- in any phase
pub none_has : (phase : Phase) (ledger : List Entry) → NoneWaits ledger → HasWaiting phase ledger
none_has Idle ledger none = none
none_has (Awaits job pending) ledger none = none_with (is_activating job.step) pending.number ledger none
none_has (Due job) ledger none = none

with_only : (b : Bool) (number : ℕ) (ledger : List Entry) → WaitsWith b number ledger → OnlyLastWaits ledger
with_only true number ledger has = has.0
with_only false number ledger has = none_only ledger has

-- in any phase
pub only_last : (phase : Phase) (ledger : List Entry) → HasWaiting phase ledger → OnlyLastWaits ledger
only_last Idle ledger has = none_only ledger has
only_last (Awaits job pending) ledger has = with_only (is_activating job.step) pending.number ledger has
only_last (Due job) ledger has = none_only ledger has

with_one : (b : Bool) (number : ℕ) (ledger : List Entry) → WaitsWith b number ledger → OneWaits number ledger
with_one true number ledger has = has.1
with_one false number ledger has = none_one number ledger has

appended_only : (ledger : List Entry) (entry : Entry) → NoneWaits ledger → OnlyLastWaits (ledger ++ entry ∷ [])
appended_only [] entry none = (tt, tt)
appended_only (first ∷ []) entry none = (All-head (λ (e : Entry). is_waiting e.outcome ≡ false) first [] none, (tt, tt))
appended_only (first ∷ next ∷ ledger) entry none =
    let settled = All-head (λ (e : Entry). is_waiting e.outcome ≡ false) first (next ∷ ledger) none in
    (settled, appended_only (next ∷ ledger) entry (All-tail (λ (e : Entry). is_waiting e.outcome ≡ false) first (next ∷ ledger) none))

appended_with : (b : Bool) (number : ℕ) (ledger : List Entry) (entry : Entry) → NoneWaits ledger → entry.number ≡ number
    → WaitsWith b number (if b then ledger ++ entry ∷ [] else ledger)
appended_with true number ledger entry none is = (
  appended_only ledger entry none,
  All-append (λ (e : Entry). is_waiting e.outcome ≡ true → e.number ≡ number) ledger (entry ∷ []) (none_one number ledger none)
      (All-cons (λ (e : Entry). is_waiting e.outcome ≡ true → e.number ≡ number) entry [] (λ waits. is) (λ k d h. absurd (omega arith))),
)
appended_with false number ledger entry none is = none

-- a code enters
pub entered_waits : (b : Bool) (next number : ℕ) (ledger after : List Entry) (entry : Entry) → NoneWaits ledger → number ≡ next → entry.number ≡ next
    → after ≡ (if b then ledger ++ entry ∷ [] else ledger) → WaitsWith b number after
entered_waits b next number ledger after entry none number_is entry_is after_is =
    subst (WaitsWith b number) (sym after_is) (appended_with b number ledger entry none (entry_is ∙ sym number_is))

given_up_settled : (b : Bool) (outcome : Outcome) (entry : Entry) → is_waiting entry.outcome ≡ b → is_waiting outcome ≡ false
    → is_waiting (if b then record entry { outcome = outcome } else entry).outcome ≡ false
given_up_settled true outcome entry waits settled = settled
given_up_settled false outcome entry waits settled = waits

-- those that wait have another outcome
pub given_up_none : (outcome : Outcome) (ledger : List Entry) → is_waiting outcome ≡ false → NoneWaits (map (given_up outcome) ledger)
given_up_none outcome [] settled = λ k d h. absurd (omega arith)
given_up_none outcome (entry ∷ ledger) settled =
    All-cons (λ (e : Entry). is_waiting e.outcome ≡ false) (given_up outcome entry) (map (given_up outcome) ledger)
    (given_up_settled (is_waiting entry.outcome) outcome entry refl settled) (given_up_none outcome ledger settled)

decided_settled : (number : ℕ) (outcome : Outcome) (entry : Entry) → (is_waiting entry.outcome ≡ true → entry.number ≡ number) → is_waiting outcome ≡ false
    → is_waiting (with_outcome number outcome entry).outcome ≡ false
decided_settled number outcome entry waits settled = grind (arith, nat_tests)

one_decided : (number : ℕ) (outcome : Outcome) (ledger : List Entry) → is_waiting outcome ≡ false → OneWaits number ledger
    → NoneWaits (map (with_outcome number outcome) ledger)
one_decided number outcome [] settled one = λ k d h. absurd (omega arith)
one_decided number outcome (entry ∷ ledger) settled one =
    let first = All-head (λ (e : Entry). is_waiting e.outcome ≡ true → e.number ≡ number) entry ledger one in
    let rest = All-tail (λ (e : Entry). is_waiting e.outcome ≡ true → e.number ≡ number) entry ledger one in
    All-cons (λ (e : Entry). is_waiting e.outcome ≡ false) (with_outcome number outcome entry) (map (with_outcome number outcome) ledger)
    (decided_settled number outcome entry first settled) (one_decided number outcome ledger settled rest)

-- ---- a request goes out

pub sent_in_canonical : (m : SnmpMessage) → sent_in (canonical m) ≡ Some (canonical m)
unfolding canonical element
sent_in_canonical m = refl

pub canonical_some : (m : SnmpMessage) → 0 < length (canonical m)
unfolding canonical element
canonical_some m = omega arith

-- of a phase that is not idle
pub busy_work : (stage : Stage) (job : CodeJob) (pending : CodePending) → is_busy (phase_model stage job pending) ≡ true → IsPhase (phase_model stage job pending)
    → IsWork (job.work) × (job.polls ≤ most_polls)
busy_work stages.Idle job pending busy is = absurd (false≢true busy)
busy_work stages.Awaits job pending busy is = (is.0, is.2)
busy_work stages.Due job pending busy is = is

pub awaiting_again : (state : CentreState) (job : Job) (pending : Pending) (ledger : List Entry) (octets : List ℕ) (m : SnmpMessage)
    → IsState state → awaits_activation state.phase ≡ false → IsWork job.work × (job.polls ≤ most_polls) → pending ≡ record { number = state.next; octets = octets; sends = 1; age = 0 } → octets ≡ canonical m
    → ledger ≡ entered state.ledger state.next job
    → IsState (record state { next = state.next + 1; phase = Awaits job pending; ledger = ledger })
awaiting_again state job pending ledger octets m is other work pending_is octets_is ledger_is = record {
  settings = is.settings;
  below = subst (AllBelow (state.next + 1)) (sym ledger_is) (below_if (is_activating job.step) state.next state.ledger _ is.below refl);
  rise = subst (Rise 0 (state.next + 1)) (sym ledger_is) (rise_if (is_activating job.step) state.next state.ledger _ is.rise refl);
  phase = (work.0, subst IsPending (sym pending_is) (record { some = subst (λ xs. 0 < length xs) (sym octets_is) (canonical_some m); age = omega arith }), work.1);
  waiting = entered_waits (is_activating job.step) state.next pending.number state.ledger ledger _ (none_waits state.phase state.ledger other is.waiting) (ap (λ (p : Pending). p.number) pending_is) refl ledger_is;
}

-- ---- a reply

pub decided_below : (next number : ℕ) (outcome : Outcome) (ledger : List Entry) → AllBelow next ledger → AllBelow next (map (with_outcome number outcome) ledger)
decided_below next number outcome [] below = below
decided_below next number outcome (entry ∷ ledger) below =
    let first = All-head (λ (e : Entry). e.number < next) entry ledger below in
    let rest = decided_below next number outcome ledger (All-tail (λ (e : Entry). e.number < next) entry ledger below) in
    All-cons (λ (e : Entry). e.number < next) (with_outcome number outcome entry) (map (with_outcome number outcome) ledger) (omega (arith, first, same_number (entry.number == number) outcome entry)) rest

-- while a request waits, an entry that waits is that request's
pub awaited_one : (stage : Stage) (job : CodeJob) (pending : CodePending) (ledger : List Entry) → is_awaiting (phase_model stage job pending) ≡ true
    → HasWaiting (phase_model stage job pending) ledger → OneWaits pending.number ledger
awaited_one stages.Idle job pending ledger awaits has = absurd (false≢true awaits)
awaited_one stages.Awaits job pending ledger awaits has = with_one (is_activating job.step) pending.number ledger has
awaited_one stages.Due job pending ledger awaits has = absurd (false≢true awaits)

-- the code of the request that waits is decided
pub decided_again : (state : CentreState) (phase : Phase) (number : ℕ) (outcome : Outcome) (ledger : List Entry) (last : Ended) → IsState state → IsPhase phase
    → is_waiting outcome ≡ false → OneWaits number state.ledger → ledger ≡ map (with_outcome number outcome) state.ledger
    → IsState (record state { phase = phase; ledger = ledger; last = last })
decided_again state phase number outcome ledger last is is_phase settled one ledger_is = record {
  settings = is.settings;
  below = subst (AllBelow state.next) (sym ledger_is) (decided_below state.next number outcome state.ledger is.below);
  rise = subst (Rise 0 state.next) (sym ledger_is) (rise_still (λ (entry : Entry). entry.number == number) outcome 0 state.next state.ledger is.rise);
  phase = is_phase;
  waiting = none_has phase ledger (subst NoneWaits (sym ledger_is) (one_decided number outcome state.ledger settled one));
}

-- its cause is asked for
pub explaining_again : (stage : Stage) (job : CodeJob) (pending : CodePending) → IsPhase (phase_model stage job pending)
    → IsPhase (phase_model stage (record job { step = Explaining }) pending)
explaining_again stages.Idle job pending is = is
explaining_again stages.Awaits job pending is = is
explaining_again stages.Due job pending is = is

-- ---- no reply, and a restart

pub given_up_again : (state : CentreState) (outcome : Outcome) (ledger : List Entry) → IsState state → is_waiting outcome ≡ false
    → ledger ≡ map (given_up outcome) state.ledger → IsState (record state { ledger = ledger })
given_up_again state outcome ledger is settled ledger_is = record {
  settings = is.settings;
  below = subst (AllBelow state.next) (sym ledger_is) (given_up_below state.next outcome state.ledger is.below);
  rise = subst (Rise 0 state.next) (sym ledger_is) (rise_still (λ (entry : Entry). is_waiting entry.outcome) outcome 0 state.next state.ledger is.rise);
  phase = is.phase;
  waiting = none_has state.phase ledger (subst NoneWaits (sym ledger_is) (given_up_none outcome state.ledger settled));
}

pub given_up_idle : (state : CentreState) (outcome : Outcome) (ledger : List Entry) (last : Ended) → IsState state → is_waiting outcome ≡ false
    → ledger ≡ map (given_up outcome) state.ledger → IsState (record state { phase = Idle; ledger = ledger; last = last })
given_up_idle state outcome ledger last is settled ledger_is = record {
  settings = is.settings;
  below = subst (AllBelow state.next) (sym ledger_is) (given_up_below state.next outcome state.ledger is.below);
  rise = subst (Rise 0 state.next) (sym ledger_is) (rise_still (λ (entry : Entry). is_waiting entry.outcome) outcome 0 state.next state.ledger is.rise);
  phase = tt;
  waiting = subst NoneWaits (sym ledger_is) (given_up_none outcome state.ledger settled);
}
