-- What a central system takes up of a saved state leaves what holds of each.
use Rattle.std.proofs.Common.{◌≡◌, ℕ, ◌+◌, ◌-◌, ◌<◌, ◌≤◌, ◌&&◌, not, Bool, true, false, if◌then◌else◌, nat_le, nat_lt, List, [], ◌∷◌, ◌++◌, length, Option, Some, None, Result, Err, refl, sym, ap, subst, ◌∙◌, arith}
use Rattle.std.specs.Option.{option_or}
use Rattle.std.proofs.lemmas.Bool.{false≢true}
use Rattle.std.proofs.lemmas.Bool.Decides.{nat_tests}
use Rattle.std.proofs.lemmas.Option.{none-some}
use Rattle.std.proofs.lemmas.List.Elements.{All-cons, All-append}
use Rattle.dms_wire.specs.Message.{SnmpMessage}
use Rattle.dms_wire.specs.Canonical.{canonical}
use Rattle.dms_centre_jobs.specs.declared.step.Step.{Step}
use Rattle.dms_centre_jobs.specs.Job.{Job}
use Rattle.dms_centre_jobs.specs.Steps.{is_activating, last_number, code_of}
use Rattle.dms_centre_jobs.specs.Commands.{is_good, job_of}
use Rattle.dms_centre_jobs.specs.CodeView.{command_model}
use Rattle.dms_centre_jobs.specs.Requests.{IsWork}
use Rattle.dms_centre.specs.declared.outcome.Outcome.{Outcome}
use Rattle.dms_centre.specs.declared.restoring.SavedJob.{SavedJob}
use Rattle.dms_centre.specs.declared.restoring.SavedStage.{SavedStage}
use Rattle.dms_centre.specs.declared.restoring.SavedStage.TheVariants as stages
use Rattle.dms_centre.specs.declared.restoring.EntryFault.{EntryFault}
use Rattle.dms_centre.specs.declared.restoring.JobFault.{JobFault}
use Rattle.dms_centre.specs.declared.restoring.JobFault.TheVariants as jobs
use Rattle.dms_centre_jobs.specs.declared.job.Job.{Job as CodeJob}
use Rattle.dms_centre.specs.declared.pending.Pending.{Pending as CodePending}
use Rattle.dms_centre.specs.declared.stage.Stage.{Stage}
use Rattle.dms_centre.specs.declared.stage.Stage.TheVariants as code_stages
use Rattle.dms_centre.specs.CodeView.{phase_model}
use Rattle.dms_centre.specs.State.{Pending, Phase, Idle, Awaits, Due, Entry, CentreState, is_busy}
use Rattle.dms_centre.specs.Sending.{entered}
use Rattle.dms_centre.specs.Replies.{most_polls}
use Rattle.dms_centre.specs.Resending.{ticks_to_wait, is_waiting}
use Rattle.dms_centre.specs.ByPhase.{awaits_activation}
use Rattle.dms_centre.specs.Restoring.{number_after, has_its_status, entry_fault, suits, is_sent_by_ticks, stage_fault, work_fault, waits_for_activation, job_fault, is_of_activation}
use Rattle.dms_centre.specs.Invariant.{AllBelow, Rise, IsState, IsPhase, IsPending, NoneWaits, HasWaiting}
use Rattle.dms_centre.proofs.Rising.{below_after, rise_behind}
use Rattle.dms_centre.proofs.Fine.{canonical_some, none_has, none_waits, entered_waits}

pub idle_sends : (phase : Phase) → is_busy phase ≡ false → awaits_activation phase ≡ false
idle_sends Idle idle = refl
idle_sends (Awaits job pending) idle = absurd (false≢true (sym idle))
idle_sends (Due job) idle = absurd (false≢true (sym idle))

pub none_waits_idle : (phase : Phase) (ledger : List Entry) → is_busy phase ≡ false → HasWaiting phase ledger → NoneWaits ledger
none_waits_idle phase ledger idle has = none_waits phase ledger (idle_sends phase idle) has

-- ---- an entry

pub record EntryTaken (s : CentreState) (number : ℕ) (outcome : Outcome) : Type 0 where
  pub idle : is_busy s.phase ≡ false
  pub after : number_after s.ledger ≤ number
  pub below : number < s.next
  pub settled : is_waiting outcome ≡ false
  pub status : has_its_status outcome ≡ true

none_of_four : (busy within waits good : Bool) (a b c d : EntryFault)
    → (if busy then Some a else if not within then Some b else if waits then Some c else if not good then Some d else None) ≡ None
    → (busy ≡ false) × (within ≡ true) × (waits ≡ false) × (good ≡ true)
none_of_four busy within waits good a b c d e = grind arith

within_bounds : (least number next : ℕ) → (nat_le least number && nat_lt number next) ≡ true → (least ≤ number) × (number < next)
within_bounds least number next e = grind (arith, nat_tests)

pub entry_taken : (s : CentreState) (number : ℕ) (outcome : Outcome) → entry_fault s number outcome ≡ None → EntryTaken s number outcome
entry_taken s number outcome none =
    let each = none_of_four (is_busy s.phase) (nat_le (number_after s.ledger) number && nat_lt number s.next) (is_waiting outcome) (has_its_status outcome) _ _ _ _ none in
    let bounds = within_bounds (number_after s.ledger) number s.next each.1 in
    record { idle = each.0; after = bounds.0; below = bounds.1; settled = each.2; status = each.3 }

none_behind : (ledger : List Entry) (entry : Entry) → NoneWaits ledger → is_waiting entry.outcome ≡ false → NoneWaits (ledger ++ entry ∷ [])
none_behind ledger entry none settled =
    All-append (λ (e : Entry). is_waiting e.outcome ≡ false) ledger (entry ∷ []) none
    (All-cons (λ (e : Entry). is_waiting e.outcome ≡ false) entry [] settled (λ k d h. absurd (omega arith)))

below_with : (b : Bool) (next : ℕ) (ledger : List Entry) (entry : Entry) → AllBelow next ledger → entry.number < next
    → AllBelow next (if b then ledger ++ entry ∷ [] else ledger)
below_with true next ledger entry below less =
    All-append (λ (e : Entry). e.number < next) ledger (entry ∷ []) below
    (All-cons (λ (e : Entry). e.number < next) entry [] less (λ k d h. absurd (omega arith)))
below_with false next ledger entry below less = below

pub entered_again : (s : CentreState) (entry : Entry) (ledger : List Entry) → IsState s → EntryTaken s entry.number entry.outcome → ledger ≡ s.ledger ++ entry ∷ []
    → IsState (record s { ledger = ledger })
entered_again s entry ledger is taken ledger_is = record {
  settings = is.settings;
  below = subst (AllBelow s.next) (sym ledger_is) (below_with true s.next s.ledger entry is.below taken.below);
  rise = subst (Rise 0 s.next) (sym ledger_is) (rise_behind s.next s.ledger entry is.rise taken.after taken.below);
  phase = is.phase;
  waiting = none_has s.phase ledger (subst NoneWaits (sym ledger_is) (none_behind s.ledger entry (none_waits_idle s.phase s.ledger taken.idle is.waiting) taken.settled));
}

-- ---- a job

pub record JobTaken (s : CentreState) (saved : SavedJob) : Type 0 where
  pub idle : is_busy s.phase ≡ false
  pub stage : stage_fault s.next saved.step saved.stage ≡ None
  pub good : is_good (command_model saved.command) ≡ true
  pub step : suits (job_of (command_model saved.command)).work saved.step ≡ true
  pub polls : saved.polls < most_polls
  pub free : waits_for_activation saved.stage saved.step ≡ true → number_after s.ledger < s.next

none_first : (busy taken : Bool) (stage work : Option JobFault) (a b : JobFault)
    → (if busy then Some a else option_or stage (option_or work (if taken then Some b else None))) ≡ None
    → (busy ≡ false) × (stage ≡ None) × (work ≡ None) × (taken ≡ false)
none_first true taken stage work a b e = absurd (none-some a (sym e))
none_first false taken (Some fault) work a b e = absurd (none-some fault (sym e))
none_first false taken None (Some fault) a b e = absurd (none-some fault (sym e))
none_first false true None None a b e = absurd (none-some b (sym e))
none_first false false None None a b e = (refl, refl, refl, refl)

none_of_three : (good suit few : Bool) (a b c : JobFault)
    → (if not good then Some a else if not suit then Some b else if not few then Some c else None) ≡ None
    → (good ≡ true) × (suit ≡ true) × (few ≡ true)
none_of_three good suit few a b c e = grind arith

few_polls : (polls : ℕ) → nat_lt polls 10 ≡ true → polls < 10
few_polls polls e = grind (arith, nat_tests)

free_number : (b : Bool) (after next : ℕ) → (b && not (nat_lt after next)) ≡ false → b ≡ true → after < next
free_number b after next e is = grind (arith, nat_tests)

pub job_taken : (s : CentreState) (saved : SavedJob) → job_fault s saved ≡ None → JobTaken s saved
job_taken s saved none =
    let each = none_first (is_busy s.phase) (waits_for_activation saved.stage saved.step && not (nat_lt (number_after s.ledger) s.next)) (stage_fault s.next saved.step saved.stage) (work_fault saved) _ _ none in
    let work = none_of_three (is_good (command_model saved.command)) (suits (job_of (command_model saved.command)).work saved.step) (nat_lt saved.polls 10) _ _ _ each.2 in
    record {
      idle = each.0;
      stage = each.1;
      good = work.0;
      step = work.1;
      polls = few_polls saved.polls work.2;
      free = free_number (waits_for_activation saved.stage saved.step) (number_after s.ledger) s.next each.3;
    }

pub record Waits (next times age : ℕ) : Type 0 where
  pub least : 1 ≤ next
  pub most : next ≤ last_number + 1
  pub sent : 1 ≤ times
  pub sends : times ≤ 3
  pub ticks : age < ticks_to_wait

none_of_waits : (numbered sent young : Bool) (a b c : JobFault)
    → (if not numbered then Some a else if not sent then Some b else if not young then Some c else None) ≡ None
    → (numbered ≡ true) × (sent ≡ true) × (young ≡ true)
none_of_waits numbered sent young a b c e = grind arith

between : (least number most : ℕ) → (nat_le least number && nat_le number most) ≡ true → (least ≤ number) × (number ≤ most)
between least number most e = grind (arith, nat_tests)

few_ticks : (ticks : ℕ) → nat_lt ticks 3 ≡ true → ticks < 3
few_ticks ticks e = grind (arith, nat_tests)

-- a request that waits, as it is taken up
pub waits_taken : (next : ℕ) (step : Step) (sends ticks : ℕ) → stage_fault next step (stages.Waits sends ticks) ≡ None → Waits next sends ticks
waits_taken next step sends ticks none =
    let each = none_of_waits (nat_le 1 next && nat_le next (last_number + 1)) (nat_le 1 sends && nat_le sends 3) (nat_lt ticks 3) _ _ _ none in
    let numbered = between 1 next (last_number + 1) each.0 in
    let sent = between 1 sends 3 each.1 in
    record { least = numbered.0; most = numbered.1; sent = sent.0; sends = sent.1; ticks = few_ticks ticks each.2 }

pub due_again : (s : CentreState) (job : Job) → IsState s → is_busy s.phase ≡ false → IsWork job.work → job.polls < most_polls → IsState (record s { phase = Due job })
due_again s job is idle work polls = record {
  settings = is.settings;
  below = is.below;
  rise = is.rise;
  phase = (work, omega (arith, polls));
  waiting = none_waits_idle s.phase s.ledger idle is.waiting;
}

rise_with : (b : Bool) (next : ℕ) (ledger : List Entry) (entry : Entry) → Rise 0 next ledger → (b ≡ true → number_after ledger ≤ entry.number) → entry.number < next
    → Rise 0 next (if b then ledger ++ entry ∷ [] else ledger)
rise_with true next ledger entry rise after less = rise_behind next ledger entry rise (after refl) less
rise_with false next ledger entry rise after less = rise

pub waiting_again : (s : CentreState) (job : Job) (pending : Pending) (ledger : List Entry) (octets : List ℕ) (m : SnmpMessage) (sends ticks : ℕ)
    → IsState s → awaits_activation s.phase ≡ false → IsWork job.work × (job.polls ≤ most_polls) → 1 ≤ s.next → ticks ≤ ticks_to_wait
    → (is_activating job.step ≡ true → number_after s.ledger < s.next)
    → pending ≡ record { number = s.next - 1; octets = octets; sends = sends; age = ticks } → octets ≡ canonical m
    → ledger ≡ entered s.ledger (s.next - 1) job
    → IsState (record s { phase = Awaits job pending; ledger = ledger })
waiting_again s job pending ledger octets m sends ticks is other work least young free pending_is octets_is ledger_is = record {
  settings = is.settings;
  below = subst (AllBelow s.next) (sym ledger_is) (below_with (is_activating job.step) s.next s.ledger _ is.below (omega (arith, least)));
  rise = subst (Rise 0 s.next) (sym ledger_is) (rise_with (is_activating job.step) s.next s.ledger _ is.rise (λ activates. omega (arith, least, free activates)) (omega (arith, least)));
  phase = (work.0, subst IsPending (sym pending_is) (record { some = subst (λ xs. 0 < length xs) (sym octets_is) (canonical_some m); age = young }), work.1);
  waiting = entered_waits (is_activating job.step) (s.next - 1) pending.number s.ledger ledger _ (none_waits s.phase s.ledger other is.waiting) (ap (λ (p : Pending). p.number) pending_is) refl ledger_is;
}

-- ---- want of memory is no fault of a job

pub err_is : {A E : Type 0} (x y : E) → ◌≡◌ {A = Result A E} (Err x) (Err y) → x ≡ y
err_is x y e = cc

stage_memory : (next : ℕ) (step : Step) (stage : SavedStage) (fault : JobFault) → stage_fault next step stage ≡ Some fault → fault ≡ jobs.Memory → ⊥
stage_memory next step stages.Due fault e is = grind arith
stage_memory next step (stages.Waits sends ticks) fault e is = grind arith

work_memory : (saved : SavedJob) (fault : JobFault) → work_fault saved ≡ Some fault → fault ≡ jobs.Memory → ⊥
work_memory saved fault e is = grind arith

either_memory : (busy taken : Bool) (stage work : Option JobFault) (fault : JobFault) → (if busy then Some jobs.Busy else option_or stage (option_or work (if taken then Some jobs.Entry else None))) ≡ Some fault
    → (stage ≡ Some fault → fault ≡ jobs.Memory → ⊥) → (work ≡ Some fault → fault ≡ jobs.Memory → ⊥) → fault ≡ jobs.Memory → ⊥
either_memory true taken stage work fault e first second is = grind arith
either_memory false taken (Some a) work fault e first second is = first e is
either_memory false taken None (Some b) fault e first second is = second e is
either_memory false true None None fault e first second is = grind arith
either_memory false false None None fault e first second is = grind arith

pub never_memory : (s : CentreState) (saved : SavedJob) (fault : JobFault) → job_fault s saved ≡ Some fault → fault ≡ jobs.Memory → ⊥
never_memory s saved fault e is =
    either_memory (is_busy s.phase) (waits_for_activation saved.stage saved.step && not (nat_lt (number_after s.ledger) s.next)) (stage_fault s.next saved.step saved.stage)
    (work_fault saved) fault e (stage_memory s.next saved.step saved.stage fault) (work_memory saved fault) is

-- ---- the request of a job waits

-- of a phase that is not idle
pub activates : (stage : Stage) (job : CodeJob) (pending : CodePending) → is_busy (phase_model stage job pending) ≡ true → is_activating job.step ≡ true
    → is_of_activation (phase_model stage job pending) ≡ true
activates code_stages.Idle job pending busy is = absurd (false≢true busy)
activates code_stages.Awaits job pending busy is = is
activates code_stages.Due job pending busy is = is

pub below_number : (after next : ℕ) → 1 ≤ next → after < next → after ≤ next - 1
below_number after next least less = omega arith
