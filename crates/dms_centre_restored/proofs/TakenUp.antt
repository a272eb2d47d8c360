-- What is taken up of a text leaves a state that a central system comes to.
use Rattle.std.proofs.Common.{◌≡◌, ℕ, ◌-◌, ◌<◌, ◌≤◌, Bool, true, false, if◌then◌else◌, not, nat_le, ◌&&◌, List, [], ◌∷◌, ◌++◌, Some, None, refl, sym, ap, subst, ◌∙◌, append-nil, arith}
use Rattle.std.specs.List.{AllByRecursion}
use Rattle.std.proofs.lemmas.Bool.{false≢true}
use Rattle.std.proofs.lemmas.Bool.Decides.{nat_tests}
use Rattle.dms_codes.specs.Codes.{IsActivation}
use Rattle.dms_centre_jobs.specs.Job.{Job}
use Rattle.dms_centre_jobs.specs.Steps.{is_activating, code_of}
use Rattle.dms_centre_jobs.specs.Commands.{IsCommand}
use Rattle.dms_centre_jobs.specs.CodeView.{command_model}
use Rattle.dms_centre_jobs.proofs.JobLaws.{is_job}
use Rattle.dms_centre_jobs.proofs.Requests.{is_code}
use Rattle.dms_centre.specs.declared.ended.Ended.{Ended}
use Rattle.dms_centre.specs.declared.ended.Ended.TheVariants as endings
use Rattle.dms_centre.specs.declared.ended.Why.{Why}
use Rattle.dms_centre.specs.declared.ended.Why.TheVariants as reasons
use Rattle.dms_centre.specs.declared.outcome.Outcome.{Outcome}
use Rattle.dms_centre.specs.declared.outcome.Outcome.TheVariants as outcomes
use Rattle.dms_centre.specs.declared.restoring.SavedJob.{SavedJob}
use Rattle.dms_centre.specs.declared.restoring.SavedStage.{SavedStage}
use Rattle.dms_centre.specs.declared.restoring.SavedStage.TheVariants as stages
use Rattle.dms_centre.specs.declared.restoring.EndFault.{EndFault}
use Rattle.dms_centre.specs.declared.restoring.JobFault.{JobFault}
use Rattle.dms_centre.specs.State.{Phase, Idle, Awaits, Due, Entry, CentreState, is_busy}
use Rattle.dms_centre.specs.Restoring.{number_after, waits_for_activation, has_its_status, has_its_number, entry_fault, with_entry, stage_fault, is_sent_by_ticks, job_fault, job_saved, with_job, end_fault, with_last}
use Rattle.dms_centre.specs.Invariant.{Rise}
use Rattle.dms_centre.proofs.Rising.{rise_behind}
use Rattle.dms_centre.proofs.Restored.{entry_taken, job_taken, waits_taken}
use Rattle.dms_centre_state.specs.Reached.{IsJob, IsOutcome, is_settled, waiting_entries, IsWhy, IsEnded, IsReached}
use Rattle.dms_centre_restored.specs.Restored.{GoesOn}
use Rattle.dms_centre_state.proofs.Ledgers.{Settles, settles_rest, entries_if, waits_if}

idle_waits : (phase : Phase) → is_busy phase ≡ false → waiting_entries phase ≡ []
idle_waits Idle idle = refl
idle_waits (Awaits job pending) idle = absurd (false≢true (sym idle))
idle_waits (Due job) idle = absurd (false≢true (sym idle))

settles_idle : (s : CentreState) → IsReached s → is_busy s.phase ≡ false → Settles s
settles_idle s r idle = settles_rest s s.phase r r.ledger (idle_waits s.phase idle)

pub all_push : {A : Type 0} (P : A → Type 0) (xs : List A) (x : A) → AllByRecursion P xs → P x → AllByRecursion P (xs ++ x ∷ [])
all_push P [] x all one = (one, tt)
all_push P (y ∷ xs) x all one = (all.0, all_push P xs x all.1 one)

-- ---- an entry

pub is_outcome : (outcome : Outcome) → has_its_status outcome ≡ true → IsOutcome outcome
is_outcome outcomes.Waiting is = tt
is_outcome outcomes.Accepted is = tt
is_outcome (outcomes.Refused status) is = is
is_outcome outcomes.NoReply is = tt
is_outcome outcomes.Unknown is = tt

pub reached_entry : (s : CentreState) (entry : Entry) → IsReached s → IsActivation entry.code → entry_fault s entry.number entry.outcome ≡ None
    → IsReached (with_entry s entry)
reached_entry s entry r is_code none =
    let taken = entry_taken s entry.number entry.outcome none in
    let st = settles_idle s r taken.idle in
    record {
      settings = r.settings;
      next = r.next;
      phase = r.phase;
      ledger = record {
        rise = rise_behind s.next s.ledger entry st.rise taken.after taken.below;
        entries = entries_if true s.ledger entry st.entries (record { code = is_code; outcome = is_outcome entry.outcome taken.status });
        settled = s.ledger ++ entry ∷ [];
        are_settled = all_push is_settled s.ledger entry st.settled taken.settled;
        is = sym (append-nil (s.ledger ++ entry ∷ [])) ∙ ap (λ waiting. (s.ledger ++ entry ∷ []) ++ waiting) (sym (idle_waits s.phase taken.idle));
      };
      last = r.last;
    }

-- ---- a job

rise_with : (b : Bool) (next : ℕ) (ledger : List Entry) (entry : Entry) → Rise 0 next ledger → (b ≡ true → number_after ledger ≤ entry.number) → entry.number < next
    → Rise 0 next (if b then ledger ++ entry ∷ [] else ledger)
rise_with true next ledger entry rise after less = rise_behind next ledger entry rise (after refl) less
rise_with false next ledger entry rise after less = rise

by_tick : (b : Bool) (fault : JobFault) → (if not b then Some fault else None) ≡ None → b ≡ true
by_tick b fault none = grind arith

reached_stage : (s : CentreState) (job : Job) (stage : SavedStage) → Settles s → IsEnded s.last → IsJob job → stage_fault s.next job.step stage ≡ None
    → (waits_for_activation stage job.step ≡ true → number_after s.ledger < s.next) → IsReached (with_job s job stage)
reached_stage s job stages.Due st ended is none free = record {
  settings = st.settings;
  next = st.next;
  phase = (is, by_tick (is_sent_by_ticks job.step) _ none);
  ledger = record { rise = st.rise; entries = st.entries; settled = s.ledger; are_settled = st.settled; is = sym (append-nil s.ledger) };
  last = ended;
}
reached_stage s job (stages.Waits sends ticks) st ended is none free =
    let w = waits_taken s.next job.step sends ticks none in
    record {
      settings = st.settings;
      next = st.next;
      phase = (
        is,
        record {
          newest = omega (arith, w.least);
          number = omega (arith, w.least, w.most);
          octets = refl;
          sent = w.sent;
          sends = w.sends;
          age = w.ticks;
        },
      );
      ledger = record {
        rise = rise_with (is_activating job.step) s.next s.ledger (record { number = s.next - 1; code = code_of job.work; outcome = outcomes.Waiting }) st.rise
            (λ activates. omega (arith, w.least, free activates)) (omega (arith, w.least));
        entries = entries_if (is_activating job.step) s.ledger (record { number = s.next - 1; code = code_of job.work; outcome = outcomes.Waiting }) st.entries
            (record { code = is_code job.work is.work; outcome = tt });
        settled = s.ledger;
        are_settled = st.settled;
        is = waits_if (is_activating job.step) s.ledger (record { number = s.next - 1; code = code_of job.work; outcome = outcomes.Waiting });
      };
      last = ended;
    }

pub reached_job : (s : CentreState) (saved : SavedJob) → IsReached s → IsCommand (command_model saved.command) → job_fault s saved ≡ None
    → IsReached (with_job s (job_saved saved) saved.stage)
reached_job s saved r command none =
    let taken = job_taken s saved none in
    reached_stage s (job_saved saved) saved.stage (settles_idle s r taken.idle) r.last
    (record { work = is_job (command_model saved.command) command taken.good; step = taken.step; polls = taken.polls }) taken.stage taken.free

stage_settings : (s : CentreState) (job : Job) (stage : SavedStage) → (with_job s job stage).settings ≡ s.settings
stage_settings s job stages.Due = refl
stage_settings s job (stages.Waits sends ticks) = refl

-- ---- how the last job ended

is_why : (why : Why) → has_its_number why ≡ true → IsWhy why
is_why (reasons.Status status) is = is
is_why (reasons.WrongStatus status) is = is
is_why reasons.StillValidating is = tt
is_why reasons.OtherChecksum is = tt
is_why reasons.NoReply is = tt
is_why reasons.NumbersUsedUp is = tt
is_why reasons.OddReply is = tt
is_why (reasons.Cause cause) is = is
is_why reasons.Restarted is = tt

none_of_two : (step number : Bool) (a b : EndFault) → (if not step then Some a else if not number then Some b else None) ≡ None → (step ≡ true) × (number ≡ true)
none_of_two step number a b none = grind arith

between : (least number most : ℕ) → (nat_le least number && nat_le number most) ≡ true → (least ≤ number) × (number ≤ most)
between least number most e = grind (arith, nat_tests)

pub is_ended : (ended : Ended) → end_fault ended ≡ None → IsEnded ended
is_ended endings.Never none = tt
is_ended endings.Accepted none = tt
is_ended (endings.Failed step why) none =
    let each = none_of_two (nat_le 1 step && nat_le step 8) (has_its_number why) _ _ none in
    let range = between 1 step 8 each.0 in
    (range.0, range.1, is_why why each.1)

pub reached_last : (s : CentreState) (ended : Ended) → IsReached s → end_fault ended ≡ None → IsReached (with_last s ended)
reached_last s ended r none = record { settings = r.settings; next = r.next; phase = r.phase; ledger = r.ledger; last = is_ended ended none }

-- ---- what goes on

pub goes_on_entry : (s t : CentreState) (entry : Entry) → IsReached s → IsActivation entry.code → entry_fault s entry.number entry.outcome ≡ None → t ≡ with_entry s entry → GoesOn s t
goes_on_entry s t entry r is none same = record { settings = ap (λ (u : CentreState). u.settings) same; reached = subst IsReached (sym same) (reached_entry s entry r is none) }

pub goes_on_job : (s t : CentreState) (saved : SavedJob) → IsReached s → IsCommand (command_model saved.command) → job_fault s saved ≡ None
    → t ≡ with_job s (job_saved saved) saved.stage → GoesOn s t
goes_on_job s t saved r command none same = record {
  settings = ap (λ (u : CentreState). u.settings) same ∙ stage_settings s (job_saved saved) saved.stage;
  reached = subst IsReached (sym same) (reached_job s saved r command none);
}

pub goes_on_last : (s t : CentreState) (ended : Ended) → IsReached s → end_fault ended ≡ None → t ≡ with_last s ended → GoesOn s t
goes_on_last s t ended r none same = record { settings = ap (λ (u : CentreState). u.settings) same; reached = subst IsReached (sym same) (reached_last s ended r none) }

pub goes_on_both : (s t u : CentreState) → GoesOn s t → GoesOn t u → GoesOn s u
goes_on_both s t u first second = record { settings = second.settings ∙ first.settings; reached = second.reached }
