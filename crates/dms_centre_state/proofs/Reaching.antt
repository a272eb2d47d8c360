-- A central system that has come to a state comes to the one after each input.
use Rattle.std.proofs.Common.{◌≡◌, ℕ, ℤ, pos, ◌+◌, ◌<◌, ◌≤◌, ◌^◌, not, Bool, true, false, if◌then◌else◌, IsTrue, List, [], ◌∷◌, ◌++◌, Option, Some, None, refl, sym, ap, subst, ◌∙◌, append-nil, arith, nat_le, nat_lt}
use Rattle.std.specs.Ordering.{int_eq}
use Rattle.std.specs.List.{AllByRecursion}
use Rattle.std.proofs.lemmas.Bool.{false≢true}
use Rattle.std.proofs.lemmas.Bool.Decides.{nat_tests}
use Rattle.dms_wire_ber.specs.Integer.{in_range}
use Rattle.dms_wire.specs.Message.{VarBind, SnmpMessage}
use Rattle.dms_wire.specs.MessageOf.{message_of}
use Rattle.dms_codes.specs.declared.status.Status.TheVariants as statuses
use Rattle.dms_codes.specs.Status.{status_number}
use Rattle.dms_centre.specs.declared.ended.Ended.{Ended}
use Rattle.dms_centre.specs.declared.ended.Ended.TheVariants as endings
use Rattle.dms_centre.specs.declared.ended.Why.{Why}
use Rattle.dms_centre.specs.declared.ended.Why.TheVariants as reasons
use Rattle.dms_centre.specs.declared.fault.CommandFault.{CommandFault}
use Rattle.dms_centre.specs.declared.outcome.Outcome.TheVariants as outcomes
use Rattle.dms_centre_jobs.specs.declared.step.Step.{Step}
use Rattle.dms_centre_jobs.specs.declared.step.Step.TheVariants.{Opening, Opened, Filling, Validating, Polling, Comparing, Activating, Explaining}
use Rattle.dms_centre_jobs.specs.Job.{SettingsModel, Work, Publishing, Showing, Job}
use Rattle.dms_centre.specs.State.{Pending, Phase, Idle, Awaits, Due, CentreState, is_busy, start}
use Rattle.dms_centre_jobs.specs.Steps.{step_number, is_activating, code_of, last_number}
use Rattle.dms_centre.specs.Sending.{Move, rests, ends, fails, waits, at_step, sends, sends_octets, request_octets}
use Rattle.dms_centre.specs.Replies.{decided, polled_again, is_status, own_checksum, on_number, number_read, on_read, asked, on_success, on_failure, on_reply, is_answer}
use Rattle.dms_centre_jobs.specs.Commands.{CommandModel, Publish, Blank, Activate, IsCommand, is_good, job_of}
use Rattle.dms_centre.specs.Commands.{refusal_of, begins, commanded}
use Rattle.dms_centre.specs.Resending.{gives_up, older, sends_again, on_silence}
use Rattle.dms_centre.specs.Inputs.{on_message, on_datagram, received, on_tick, ticked, forgets, restarted}
use Rattle.dms_centre_jobs.specs.Requests.{AreSettings}
use Rattle.dms_centre.specs.History.{Input, IsInput, OfCommand, OfDatagram, OfTick, OfRestart, History, made, move_at, after_input, after_inputs}
use Rattle.dms_centre_jobs.proofs.JobLaws.{is_job}
use Rattle.dms_centre_jobs.proofs.Requests.{is_code}
use Rattle.dms_centre.specs.Restoring.{suits, is_sent_by_ticks}
use Rattle.dms_centre.proofs.Rising.{rise_if}
use Rattle.dms_centre_state.specs.Reached.{IsJob, IsRequestOf, IsPhaseOf, waiting_entries, IsLedgerOf, IsWhy, IsEnded, IsReached}
use Rattle.dms_centre_state.proofs.Heard.{AreInRange, IsHeard, heard, number_heard}
use Rattle.dms_centre_state.proofs.Ledgers.{entries_if, waits_if, Settles, settles_rest, settles_decided, settles_given_up}

abbrev Comes : Move → Type 0
Comes move = IsReached move.state

either_way : (b : Bool) (x y : Move) → Comes x → Comes y → Comes (if b then x else y)
either_way true x y p q = p
either_way false x y p q = q

by_test : (b : Bool) (x y : Move) → (b ≡ true → Comes x) → (b ≡ false → Comes y) → Comes (if b then x else y)
by_test true x y p q = p refl
by_test false x y p q = q refl

-- ---- jobs

step_range : (step : Step) (why : Why) → IsWhy why → IsEnded (endings.Failed (step_number step) why)
step_range Opening why is = (omega arith, omega arith, is)
step_range Opened why is = (omega arith, omega arith, is)
step_range Filling why is = (omega arith, omega arith, is)
step_range Validating why is = (omega arith, omega arith, is)
step_range Polling why is = (omega arith, omega arith, is)
step_range Comparing why is = (omega arith, omega arith, is)
step_range Activating why is = (omega arith, omega arith, is)
step_range Explaining why is = (omega arith, omega arith, is)

abbrev is_of_writing : Step → Bool
is_of_writing Activating = false
is_of_writing Explaining = false
is_of_writing step = true

-- a message that is written takes all steps
takes_all : (work : Work) (step other : Step) → is_of_writing step ≡ true → suits work step ≡ true → suits work other ≡ true
takes_all (Publishing p) step other is suit = refl
takes_all (Showing code) Opening other is suit = absurd (false≢true suit)
takes_all (Showing code) Opened other is suit = absurd (false≢true suit)
takes_all (Showing code) Filling other is suit = absurd (false≢true suit)
takes_all (Showing code) Validating other is suit = absurd (false≢true suit)
takes_all (Showing code) Polling other is suit = absurd (false≢true suit)
takes_all (Showing code) Comparing other is suit = absurd (false≢true suit)
takes_all (Showing code) Activating other is suit = absurd (false≢true is)
takes_all (Showing code) Explaining other is suit = absurd (false≢true is)

is_explained : (work : Work) → suits work Explaining ≡ true
is_explained (Publishing p) = refl
is_explained (Showing code) = refl

-- the job on another step
goes_to : (job : Job) (step other : Step) → IsJob job → step ≡ job.step → is_of_writing step ≡ true → IsJob (at_step job other)
goes_to job step other is same writes = record {
  work = is.work;
  step = takes_all job.work step other writes (subst (λ s. suits job.work s ≡ true) (sym same) is.step);
  polls = is.polls;
}

begins_with : (command : CommandModel) → suits (job_of command).work (job_of command).step ≡ true
begins_with (Publish p) = refl
begins_with (Blank number minutes priority address) = refl
begins_with (Activate code) = refl

begun_job : (command : CommandModel) → IsCommand command → is_good command ≡ true → IsJob (job_of command)
begun_job command is good = record { work = is_job command is good; step = begins_with command; polls = no_polls command }
  where
    no_polls : (command : CommandModel) → (job_of command).polls < 10
    no_polls (Publish p) = omega arith
    no_polls (Blank number minutes priority address) = omega arith
    no_polls (Activate code) = omega arith

-- ---- moves of a state in which no entry waits

reached_end : (state : CentreState) (ended : Ended) → Settles state → IsEnded ended → IsReached (ends state ended)
reached_end state ended s is = record {
  settings = s.settings;
  next = s.next;
  phase = tt;
  ledger = record { rise = s.rise; entries = s.entries; settled = state.ledger; are_settled = s.settled; is = sym (append-nil state.ledger) };
  last = is;
}

reached_fail : (state : CentreState) (step : Step) (why : Why) → Settles state → IsWhy why → Comes (fails state step why)
reached_fail state step why s is = reached_end state (endings.Failed (step_number step) why) s (step_range step why is)

reached_wait : (state : CentreState) (job : Job) → Settles state → IsEnded state.last → IsJob job → is_sent_by_ticks job.step ≡ true → Comes (waits state job)
reached_wait state job s ended is due = record {
  settings = s.settings;
  next = s.next;
  phase = (is, due);
  ledger = record { rise = s.rise; entries = s.entries; settled = state.ledger; are_settled = s.settled; is = sym (append-nil state.ledger) };
  last = ended;
}

reached_new : (state : CentreState) (job : Job) → Settles state → IsEnded state.last → IsJob job → state.next ≤ last_number
    → Comes (sends_octets state job (request_octets state job))
reached_new state job s ended is left = record {
  settings = s.settings;
  next = omega (arith, left);
  phase = (is, record { newest = refl; number = left; octets = refl; sent = omega arith; sends = omega arith; age = omega arith });
  ledger = record {
    rise = rise_if (is_activating job.step) state.next state.ledger (record { number = state.next; code = code_of job.work; outcome = outcomes.Waiting }) s.rise refl;
    entries =
        entries_if (is_activating job.step) state.ledger (record { number = state.next; code = code_of job.work; outcome = outcomes.Waiting }) s.entries
        (record { code = is_code job.work is.work; outcome = tt });
    settled = state.ledger;
    are_settled = s.settled;
    is = waits_if (is_activating job.step) state.ledger (record { number = state.next; code = code_of job.work; outcome = outcomes.Waiting });
  };
  last = ended;
}

reached_sends : (state : CentreState) (job : Job) → Settles state → IsEnded state.last → IsJob job → Comes (sends state job)
unfolding sends
reached_sends state job s ended is =
    by_test (nat_le state.next last_number) (sends_octets state job (request_octets state job)) (fails state job.step reasons.NumbersUsedUp)
    (λ left. reached_new state job s ended is (grind (arith, nat_tests, left)))
    (λ none. reached_fail state job.step reasons.NumbersUsedUp s tt)

-- ---- a reply

reached_polled : (state : CentreState) (job : Job) → IsReached state → Settles state → IsJob job → Polling ≡ job.step → Comes (polled_again state job)
reached_polled state job r s is same =
    by_test (nat_lt (job.polls + 1) 10) (waits state (record job { polls = job.polls + 1 })) (fails state Polling reasons.StillValidating)
    (λ few. reached_wait state (record job { polls = job.polls + 1 }) s r.last (record { work = is.work; step = is.step; polls = grind (arith, nat_tests, few) })
    (ap is_sent_by_ticks (sym same)))
    (λ many. reached_fail state Polling reasons.StillValidating s tt)

reached_number : (state : CentreState) (job : Job) (step : Step) (number : ℤ) → IsReached state → Settles state → IsJob job → step ≡ job.step
    → IsTrue (in_range number) → Comes (on_number state job step number)
reached_number state job Opened number r s is same fits =
    either_way (is_status number (status_number statuses.Modifying)) (sends state (at_step job Filling)) (fails state Opened (reasons.WrongStatus number))
    (reached_sends state (at_step job Filling) s r.last (goes_to job Opened Filling is same refl))
    (reached_fail state Opened (reasons.WrongStatus number) s fits)
reached_number state job Polling number r s is same fits =
    either_way (is_status number (status_number statuses.Valid)) (sends state (at_step job Comparing))
    (if is_status number (status_number statuses.Validating) then polled_again state job else fails state Polling (reasons.WrongStatus number))
    (reached_sends state (at_step job Comparing) s r.last (goes_to job Polling Comparing is same refl))
    (either_way (is_status number (status_number statuses.Validating)) (polled_again state job) (fails state Polling (reasons.WrongStatus number))
    (reached_polled state job r s is same)
    (reached_fail state Polling (reasons.WrongStatus number) s fits))
reached_number state job Comparing number r s is same fits =
    either_way (int_eq number (pos (own_checksum state.settings.order job.work))) (waits state (at_step job Activating))
    (fails state Comparing reasons.OtherChecksum)
    (reached_wait state (at_step job Activating) s r.last (goes_to job Comparing Activating is same refl) refl)
    (reached_fail state Comparing reasons.OtherChecksum s tt)
reached_number state job Explaining number r s is same fits = reached_fail state Activating (reasons.Cause number) s fits
reached_number state job Opening number r s is same fits = r
reached_number state job Filling number r s is same fits = r
reached_number state job Validating number r s is same fits = r
reached_number state job Activating number r s is same fits = r

reached_read : (state : CentreState) (job : Job) (o : Option ℤ) → IsReached state → Settles state → IsJob job
    → ((number : ℤ) → o ≡ Some number → IsTrue (in_range number)) → Comes (on_read state job o)
reached_read state job None r s is fits = reached_fail state job.step reasons.OddReply s tt
reached_read state job (Some number) r s is fits = reached_number state job job.step number r s is refl (fits number refl)

-- no activation waits on another step
none_waits : (job : Job) (pending : Pending) (step : Step) → step ≡ job.step → is_activating step ≡ false → waiting_entries (Awaits job pending) ≡ []
none_waits job pending step same other =
    ap (λ b. if b then record { number = pending.number; code = code_of job.work; outcome = outcomes.Waiting } ∷ [] else []) (ap is_activating (sym same) ∙ other)

module _ (state : CentreState) (job : Job) (pending : Pending) (r : IsReached state) (ledger : IsLedgerOf state.next (Awaits job pending) state.ledger)
    (is : IsJob job) where
  rests_at : (step : Step) → step ≡ job.step → is_activating step ≡ false → Settles state
  rests_at step same other = settles_rest state (Awaits job pending) r ledger (none_waits job pending step same other)

  reached_heard : (answered : List VarBind) (step : Step) → step ≡ job.step → is_activating step ≡ false → AreInRange answered
      → Comes (on_read state job (number_read (asked state job) answered))
  reached_heard answered step same other are =
      reached_read state job (number_read (asked state job) answered) r (rests_at step same other) is (λ number e. number_heard (asked state job) answered number e are)

  reached_success : (answered : List VarBind) (step : Step) → step ≡ job.step → AreInRange answered → Comes (on_success state job pending.number answered step)
  reached_success answered Opening same are = reached_sends state (at_step job Opened) (rests_at Opening same refl) r.last (goes_to job Opening Opened is same refl)
  reached_success answered Filling same are = reached_sends state (at_step job Validating) (rests_at Filling same refl) r.last (goes_to job Filling Validating is same refl)
  reached_success answered Validating same are = reached_sends state (at_step job Polling) (rests_at Validating same refl) r.last (goes_to job Validating Polling is same refl)
  reached_success answered Activating same are =
      reached_end (decided state pending.number outcomes.Accepted) endings.Accepted (settles_decided state job pending outcomes.Accepted r ledger refl tt) tt
  reached_success answered Opened same are = reached_heard answered Opened same refl are
  reached_success answered Polling same are = reached_heard answered Polling same refl are
  reached_success answered Comparing same are = reached_heard answered Comparing same refl are
  reached_success answered Explaining same are = reached_heard answered Explaining same refl are

  reached_failure : (status : ℤ) → IsTrue (in_range status) → Comes (on_failure state job pending.number status)
  reached_failure status fits =
      by_test (is_activating job.step) (sends (decided state pending.number (outcomes.Refused status)) (at_step job Explaining)) (fails state job.step (reasons.Status status))
      (λ activates. reached_sends (decided state pending.number (outcomes.Refused status)) (at_step job Explaining)
      (settles_decided state job pending (outcomes.Refused status) r ledger refl fits) r.last
      (record { work = is.work; step = is_explained job.work; polls = is.polls }))
      (λ other. reached_fail state job.step (reasons.Status status) (rests_at job.step refl other) fits)

  reached_reply : (reply : SnmpMessage) → IsHeard reply → Comes (on_reply state job pending.number reply)
  reached_reply reply heard =
      either_way (int_eq reply.status (pos 0)) (on_success state job pending.number reply.bindings job.step) (on_failure state job pending.number reply.status)
      (reached_success reply.bindings job.step refl heard.bindings)
      (reached_failure reply.status heard.status)

  -- ---- a tick without a reply

  reached_older : IsRequestOf state.settings state.next job pending → pending.age + 1 < 3 → Comes (rests (record state { phase = Awaits job (older pending) }))
  reached_older request few = record {
    settings = r.settings;
    next = r.next;
    phase = (is, record { newest = request.newest; number = request.number; octets = request.octets; sent = request.sent; sends = request.sends; age = few });
    ledger = record { rise = ledger.rise; entries = ledger.entries; settled = ledger.settled; are_settled = ledger.are_settled; is = ledger.is };
    last = r.last;
  }

  reached_again : IsRequestOf state.settings state.next job pending → pending.sends < 3 → Comes (sends_again state job pending)
  reached_again request few = record {
    settings = r.settings;
    next = r.next;
    phase = (is, record { newest = request.newest; number = request.number; octets = request.octets; sent = omega arith; sends = omega (arith, few); age = omega arith });
    ledger = record { rise = ledger.rise; entries = ledger.entries; settled = ledger.settled; are_settled = ledger.are_settled; is = ledger.is };
    last = r.last;
  }

  reached_silence : IsRequestOf state.settings state.next job pending → Comes (on_silence state job pending)
  reached_silence request =
      by_test (nat_lt (pending.age + 1) 3) (rests (record state { phase = Awaits job (older pending) }))
      (if nat_lt pending.sends 3 then sends_again state job pending else fails (gives_up state outcomes.NoReply) job.step reasons.NoReply)
      (λ young. reached_older request (grind (arith, nat_tests, young)))
      (λ old. by_test (nat_lt pending.sends 3) (sends_again state job pending) (fails (gives_up state outcomes.NoReply) job.step reasons.NoReply)
      (λ few. reached_again request (grind (arith, nat_tests, few)))
      (λ many. reached_fail (gives_up state outcomes.NoReply) job.step reasons.NoReply
      (settles_given_up state (Awaits job pending) outcomes.NoReply r ledger refl tt) tt))

-- ---- a datagram

reached_message : (state : CentreState) (phase : Phase) (message : SnmpMessage) → IsReached state → IsPhaseOf state.settings state.next phase
    → IsLedgerOf state.next phase state.ledger → IsHeard message → Comes (on_message state phase message)
reached_message state Idle message r is ledger heard = r
reached_message state (Due job) message r is ledger heard = r
reached_message state (Awaits job pending) message r is ledger heard =
    either_way (is_answer state pending.number message) (on_reply state job pending.number message) (rests state)
    (reached_reply state job pending r ledger is.0 message heard) r

reached_datagram : (state : CentreState) (o : Option SnmpMessage) → IsReached state → ((message : SnmpMessage) → o ≡ Some message → IsHeard message)
    → Comes (on_datagram state o)
reached_datagram state None r heard = r
reached_datagram state (Some message) r heard = reached_message state state.phase message r r.phase r.ledger (heard message refl)

reached_received : (state : CentreState) (octets : List ℕ) → IsReached state → Comes (received state octets)
unfolding received
reached_received state octets r = reached_datagram state (message_of octets) r (λ message e. heard octets message e)

-- ---- a command

is_taken : (busy used good : Bool) (a b c : CommandFault) → (if busy then Some a else if used then Some b else if not good then Some c else None) ≡ None
    → (busy ≡ false) × (good ≡ true)
is_taken busy used good a b c e = grind arith

idle_waits : (phase : Phase) → is_busy phase ≡ false → waiting_entries phase ≡ []
idle_waits Idle idle = refl
idle_waits (Awaits job pending) idle = absurd (false≢true (sym idle))
idle_waits (Due job) idle = refl

reached_begun : (state : CentreState) (job : Job) (o : Option CommandFault) → IsReached state → (o ≡ None → Settles state × IsJob job) → Comes (begins state job o)
reached_begun state job None r taken = reached_sends state job (taken refl).0 r.last (taken refl).1
reached_begun state job (Some fault) r taken = r

taken_by : (state : CentreState) (command : CommandModel) → IsReached state → IsCommand command → refusal_of state command ≡ None → Settles state × IsJob (job_of command)
taken_by state command r is none =
    let taken = is_taken (is_busy state.phase) (nat_lt last_number state.next) (is_good command) _ _ _ none in
    (settles_rest state state.phase r r.ledger (idle_waits state.phase taken.0), begun_job command is taken.1)

reached_commanded : (state : CentreState) (command : CommandModel) → IsReached state → IsCommand command → Comes (commanded state command)
unfolding commanded
reached_commanded state command r is = reached_begun state (job_of command) (refusal_of state command) r (taken_by state command r is)

-- ---- a tick

reached_tick : (state : CentreState) (phase : Phase) → IsReached state → IsPhaseOf state.settings state.next phase → IsLedgerOf state.next phase state.ledger
    → Comes (on_tick state phase)
reached_tick state Idle r is ledger = r
reached_tick state (Due job) r is ledger = reached_sends state job (settles_rest state (Due job) r ledger refl) r.last is.0
reached_tick state (Awaits job pending) r is ledger = reached_silence state job pending r ledger is.0 is.1

reached_ticked : (state : CentreState) → IsReached state → Comes (ticked state)
unfolding ticked
reached_ticked state r = reached_tick state state.phase r r.phase r.ledger

-- ---- a restart

reached_idle : (state : CentreState) → Idle ≡ state.phase → Settles state → IsEnded state.last → IsReached state
reached_idle state idle s ended = record {
  settings = s.settings;
  next = s.next;
  phase = subst (IsPhaseOf state.settings state.next) idle tt;
  ledger = record {
    rise = s.rise;
    entries = s.entries;
    settled = state.ledger;
    are_settled = s.settled;
    is = sym (append-nil state.ledger) ∙ ap (λ phase. state.ledger ++ waiting_entries phase) idle;
  };
  last = ended;
}

reached_forgotten : (state : CentreState) (phase : Phase) → phase ≡ state.phase → Settles state → IsEnded state.last → IsReached (forgets state phase)
reached_forgotten state Idle same s ended = reached_idle state same s ended
reached_forgotten state (Due job) same s ended = reached_end state (endings.Failed (step_number job.step) reasons.Restarted) s (step_range job.step reasons.Restarted tt)
reached_forgotten state (Awaits job pending) same s ended = reached_end state (endings.Failed (step_number job.step) reasons.Restarted) s (step_range job.step reasons.Restarted tt)

reached_restarted : (state : CentreState) → IsReached state → IsReached (restarted state)
unfolding restarted
reached_restarted state r =
    reached_forgotten (gives_up state outcomes.Unknown) state.phase refl (settles_given_up state state.phase outcomes.Unknown r r.ledger refl tt) r.last

-- ---- any input

pub reached_start : (settings : SettingsModel) (first : ℕ) → AreSettings settings → first < 2 ^ 32 → IsReached (start settings first)
reached_start settings first are small = record {
  settings = are;
  next = small;
  phase = tt;
  ledger = record { rise = omega arith; entries = tt; settled = []; are_settled = tt; is = refl };
  last = tt;
}

pub reached_input : (state : CentreState) (input : Input) → IsReached state → IsInput input → IsReached (move_at state input).state
reached_input state i r (OfCommand command is) = reached_commanded state command r is
reached_input state i r (OfDatagram octets) = reached_received state octets r
reached_input state i r OfTick = reached_ticked state r
reached_input state i r OfRestart = reached_restarted state r

reached_all : (history : History) (inputs : List Input) → IsReached history.state → AllByRecursion IsInput inputs → IsReached (after_inputs history inputs).state
reached_all history [] r are = r
reached_all history (input ∷ inputs) r are = reached_all (after_input history input) inputs (reached_input history.state input r are.0) are.1

pub reached_inputs : (settings : SettingsModel) (first : ℕ) (inputs : List Input) → AreSettings settings → first < 2 ^ 32 → AllByRecursion IsInput inputs
    → IsReached (after_inputs (made settings first) inputs).state
reached_inputs settings first inputs are small good = reached_all (made settings first) inputs (reached_start settings first are small) good
