-- Each input keeps the numbers in order.
use Rattle.std.proofs.Common.{◌≡◌, ℕ, ℤ, pos, ◌+◌, ◌<◌, ◌≤◌, not, Bool, true, if◌then◌else◌, List, [], ◌∷◌, ◌++◌, length, Option, Some, None, slice_get, refl, subst, arith, nat_le, nat_lt, append-nil}
use Rattle.std.specs.Ordering.{int_eq}
use Rattle.std.specs.List.{AllByRecursion}
use Rattle.std.proofs.lemmas.Bool.Decides.{nat_tests}
use Rattle.dms_wire.specs.Message.{VarBind, SnmpMessage}
use Rattle.dms_wire.specs.MessageOf.{message_of}
use Rattle.dms_codes.specs.declared.status.Status.TheVariants as statuses
use Rattle.dms_codes.specs.Status.{status_number}
use Rattle.dms_centre.specs.declared.ended.Ended.TheVariants as endings
use Rattle.dms_centre.specs.declared.ended.Why.{Why}
use Rattle.dms_centre.specs.declared.ended.Why.TheVariants as reasons
use Rattle.dms_centre.specs.declared.fault.CommandFault.{CommandFault}
use Rattle.dms_centre.specs.declared.fault.CommandFault.TheVariants as faults
use Rattle.dms_centre.specs.declared.outcome.Outcome.TheVariants as outcomes
use Rattle.dms_centre_jobs.specs.declared.step.Step.{Step}
use Rattle.dms_centre_jobs.specs.declared.step.Step.TheVariants.{Opening, Opened, Filling, Validating, Polling, Comparing, Activating, Explaining}
use Rattle.dms_centre_jobs.specs.Job.{SettingsModel, Job}
use Rattle.dms_centre.specs.State.{Pending, Phase, Idle, Awaits, Due, CentreState}
use Rattle.dms_centre_jobs.specs.Steps.{step_number, is_activating, last_number}
use Rattle.dms_centre.specs.Sending.{Move, rests, ends, fails, waits, at_step, sends, sends_octets, request_octets}
use Rattle.dms_centre.specs.Replies.{decided, polled_again, is_status, own_checksum, on_number, number_read, on_read, asked, on_success, on_failure, on_reply, is_answer}
use Rattle.dms_centre_jobs.specs.Commands.{CommandModel, IsCommand, job_of}
use Rattle.dms_centre.specs.Commands.{refusal_of, begins, commanded}
use Rattle.dms_centre.specs.Resending.{gives_up, older, sent_again, sends_again, on_silence}
use Rattle.dms_centre.specs.Inputs.{on_message, on_datagram, received, on_tick, ticked, forgets, restarted}
use Rattle.dms_centre_jobs.specs.Requests.{AreSettings, IsWork, IsRequest}
use Rattle.dms_centre.specs.History.{Input, IsInput, OfCommand, OfDatagram, OfTick, OfRestart, History, made, move_at, after_input, after_inputs}
use Rattle.dms_centre_laws.specs.RequestNumbers.{HasNumber, Again, New}
use Rattle.dms_centre_laws.specs.Numbered.{IsAwaited, IsAtWork, IsNumbered, HistoryIsNumbered, Keeps}
use Rattle.dms_centre_laws.proofs.Lists.{either_way, by_test, on_left, at_end}
use Rattle.dms_centre_laws.proofs.Numbers.{request_number, requests_push, rise_push, same_push, few_push, count_more, count_of_none, below_next}
use Rattle.dms_centre_jobs.proofs.Requests.{request_reads}
use Rattle.dms_centre_jobs.proofs.JobLaws.{is_job}

-- ---- three moves

-- nothing goes out, in a phase that waits for nothing new
numbered_rest : (settings : SettingsModel) (next : ℕ) (phase other : Phase) (sent : List (List ℕ)) → IsNumbered settings next phase sent
    → IsAtWork other → IsAwaited settings next other sent → IsNumbered settings next other sent
numbered_rest settings next phase other sent n work out = grind arith

abbrev KeepsAt : CentreState → List (List ℕ) → Move → Type 0
KeepsAt state sent move = Keeps state.settings state.next sent move

keeps_rest : (state : CentreState) (phase : Phase) (sent : List (List ℕ)) → IsNumbered state.settings state.next phase sent
    → IsAtWork state.phase → IsAwaited state.settings state.next state.phase sent → KeepsAt state sent (rests state)
keeps_rest state phase sent n work out = grind (arith, append-nil, numbered_rest)

-- no datagram that was sent has the next number
pub none_is_next : (settings : SettingsModel) (next : ℕ) (phase : Phase) (sent : List (List ℕ)) → IsNumbered settings next phase sent
    → (k : ℕ) (octets : List ℕ) → slice_get sent k ≡ Some octets → HasNumber next octets → ⊥
none_is_next settings next phase sent n k octets e has = absurd (omega (arith, below_next settings next next k sent octets n.requests e has))

-- a new request goes out
numbered_new : (settings : SettingsModel) (next : ℕ) (phase : Phase) (sent : List (List ℕ)) (job : Job) (octets : List ℕ) → IsNumbered settings next phase sent
    → IsWork job.work → IsRequest settings next octets
    → IsNumbered settings (next + 1) (Awaits job (record { number = next; octets = octets; sends = 1; age = 0 })) (sent ++ octets ∷ [])
numbered_new settings next phase sent job octets n work is =
    let has = request_number settings next octets is in
    let none = none_is_next settings next phase sent n in
    let zero_of = count_of_none sent next none in
    record {
      settings_fine = n.settings_fine;
      work = work;
      requests = requests_push settings next (next + 1) next sent octets is (omega arith) (omega arith) n.requests;
      rise = rise_push sent octets next has n.rise (λ k m other e p. omega (arith, below_next settings next m k sent other n.requests e p));
      same = same_push sent octets next has n.same (λ k other e p. absurd (none k other e p));
      few = few_push sent octets next has n.few (omega (arith, zero_of));
      out = record {
        newest = refl;
        request = is;
        place = length sent;
        there = at_end sent octets;
        counted = count_more sent octets next 0 has (omega (arith, zero_of));
        few = omega arith;
      };
    }

-- the waiting request goes out again
numbered_again : (settings : SettingsModel) (next : ℕ) (sent : List (List ℕ)) (job : Job) (pending : Pending) → IsNumbered settings next (Awaits job pending) sent
    → pending.sends < 3 → IsNumbered settings next (Awaits job (sent_again pending)) (sent ++ pending.octets ∷ [])
numbered_again settings next sent job pending n room =
    let has = request_number settings pending.number pending.octets n.out.request in
    record {
      settings_fine = n.settings_fine;
      work = n.work;
      requests = requests_push settings next next pending.number sent pending.octets n.out.request (omega (arith, n.out.newest)) (omega arith) n.requests;
      rise =
          rise_push sent pending.octets pending.number has n.rise
          (λ k m other e p. omega (arith, n.out.newest, below_next settings next m k sent other n.requests e p));
      same = same_push sent pending.octets pending.number has n.same (λ k other e p. n.same k n.out.place pending.number other pending.octets e n.out.there p has);
      few = few_push sent pending.octets pending.number has n.few (omega (arith, n.out.counted, room));
      out = record {
        newest = n.out.newest;
        request = n.out.request;
        place = n.out.place;
        there = on_left sent (pending.octets ∷ []) n.out.place pending.octets n.out.there;
        counted = count_more sent pending.octets pending.number pending.sends has n.out.counted;
        few = omega (arith, room);
      };
    }

-- ---- the moves of a state

keeps_fail : (state : CentreState) (phase : Phase) (sent : List (List ℕ)) (step : Step) (why : Why) → IsNumbered state.settings state.next phase sent
    → KeepsAt state sent (fails state step why)
keeps_fail state phase sent step why n = keeps_rest (ends state (endings.Failed (step_number step) why)) phase sent n tt tt

keeps_wait : (state : CentreState) (phase : Phase) (sent : List (List ℕ)) (job : Job) → IsNumbered state.settings state.next phase sent → IsWork job.work
    → KeepsAt state sent (waits state job)
keeps_wait state phase sent job n work = keeps_rest (record state { phase = Due job }) phase sent n work tt

keeps_new : (state : CentreState) (phase : Phase) (sent : List (List ℕ)) (job : Job) → IsNumbered state.settings state.next phase sent → IsWork job.work
    → state.next ≤ last_number → KeepsAt state sent (sends_octets state job (request_octets state job))
keeps_new state phase sent job n work left =
    let is : IsRequest state.settings state.next (request_octets state job) =
    record { work = job.work; step = job.step; spelled = request_reads state.settings state.next job.work job.step n.settings_fine left work } in
    record {
      numbered = numbered_new state.settings state.next phase sent job (request_octets state job) n work is;
      settings_stay = refl;
      sends = New (request_octets state job) refl is refl;
    }

keeps_sends : (state : CentreState) (phase : Phase) (sent : List (List ℕ)) (job : Job) → IsNumbered state.settings state.next phase sent → IsWork job.work
    → KeepsAt state sent (sends state job)
unfolding sends
keeps_sends state phase sent job n work =
    by_test (KeepsAt state sent) (nat_le state.next last_number)
    (sends_octets state job (request_octets state job)) (fails state job.step reasons.NumbersUsedUp)
    (λ left. keeps_new state phase sent job n work (grind (arith, nat_tests, left)))
    (λ none. keeps_fail state phase sent job.step reasons.NumbersUsedUp n)

-- ---- a reply

keeps_polled : (state : CentreState) (phase : Phase) (sent : List (List ℕ)) (job : Job) → IsNumbered state.settings state.next phase sent → IsWork job.work
    → KeepsAt state sent (polled_again state job)
keeps_polled state phase sent job n work =
    either_way (KeepsAt state sent) (nat_lt (job.polls + 1) 10) (waits state (record job { polls = job.polls + 1 })) (fails state Polling reasons.StillValidating)
    (keeps_wait state phase sent (record job { polls = job.polls + 1 }) n work)
    (keeps_fail state phase sent Polling reasons.StillValidating n)

-- the state as it is
keeps_still : (state : CentreState) (sent : List (List ℕ)) → IsNumbered state.settings state.next state.phase sent → KeepsAt state sent (rests state)
keeps_still state sent n = keeps_rest state state.phase sent n n.work n.out

keeps_number : (state : CentreState) (sent : List (List ℕ)) (job : Job) (step : Step) (number : ℤ) → IsNumbered state.settings state.next state.phase sent → IsWork job.work
    → KeepsAt state sent (on_number state job step number)
keeps_number state sent job Opened number n work =
    either_way (KeepsAt state sent) (is_status number (status_number statuses.Modifying)) (sends state (at_step job Filling)) (fails state Opened (reasons.WrongStatus number))
    (keeps_sends state state.phase sent (at_step job Filling) n work)
    (keeps_fail state state.phase sent Opened (reasons.WrongStatus number) n)
keeps_number state sent job Polling number n work =
    either_way (KeepsAt state sent) (is_status number (status_number statuses.Valid)) (sends state (at_step job Comparing))
    (if is_status number (status_number statuses.Validating) then polled_again state job else fails state Polling (reasons.WrongStatus number))
    (keeps_sends state state.phase sent (at_step job Comparing) n work)
    (either_way (KeepsAt state sent) (is_status number (status_number statuses.Validating)) (polled_again state job) (fails state Polling (reasons.WrongStatus number))
    (keeps_polled state state.phase sent job n work)
    (keeps_fail state state.phase sent Polling (reasons.WrongStatus number) n))
keeps_number state sent job Comparing number n work =
    either_way (KeepsAt state sent) (int_eq number (pos (own_checksum state.settings.order job.work))) (waits state (at_step job Activating))
    (fails state Comparing reasons.OtherChecksum)
    (keeps_wait state state.phase sent (at_step job Activating) n work)
    (keeps_fail state state.phase sent Comparing reasons.OtherChecksum n)
keeps_number state sent job Explaining number n work = keeps_fail state state.phase sent Activating (reasons.Cause number) n
keeps_number state sent job Opening number n work = keeps_still state sent n
keeps_number state sent job Filling number n work = keeps_still state sent n
keeps_number state sent job Validating number n work = keeps_still state sent n
keeps_number state sent job Activating number n work = keeps_still state sent n

keeps_read : (state : CentreState) (sent : List (List ℕ)) (job : Job) (o : Option ℤ) → IsNumbered state.settings state.next state.phase sent → IsWork job.work
    → KeepsAt state sent (on_read state job o)
keeps_read state sent job None n work = keeps_fail state state.phase sent job.step reasons.OddReply n
keeps_read state sent job (Some number) n work = keeps_number state sent job job.step number n work

keeps_success : (state : CentreState) (sent : List (List ℕ)) (job : Job) (number : ℕ) (answered : List VarBind) (step : Step)
    → IsNumbered state.settings state.next state.phase sent → IsWork job.work → KeepsAt state sent (on_success state job number answered step)
keeps_success state sent job number answered Opening n work = keeps_sends state state.phase sent (at_step job Opened) n work
keeps_success state sent job number answered Filling n work = keeps_sends state state.phase sent (at_step job Validating) n work
keeps_success state sent job number answered Validating n work = keeps_sends state state.phase sent (at_step job Polling) n work
keeps_success state sent job number answered Activating n work = keeps_rest (ends (decided state number outcomes.Accepted) endings.Accepted) state.phase sent n tt tt
keeps_success state sent job number answered Opened n work = keeps_read state sent job (number_read (asked state job) answered) n work
keeps_success state sent job number answered Polling n work = keeps_read state sent job (number_read (asked state job) answered) n work
keeps_success state sent job number answered Comparing n work = keeps_read state sent job (number_read (asked state job) answered) n work
keeps_success state sent job number answered Explaining n work = keeps_read state sent job (number_read (asked state job) answered) n work

keeps_failure : (state : CentreState) (sent : List (List ℕ)) (job : Job) (number : ℕ) (status : ℤ)
    → IsNumbered state.settings state.next state.phase sent → IsWork job.work → KeepsAt state sent (on_failure state job number status)
keeps_failure state sent job number status n work =
    either_way (KeepsAt state sent) (is_activating job.step) (sends (decided state number (outcomes.Refused status)) (at_step job Explaining))
    (fails state job.step (reasons.Status status))
    (keeps_sends (decided state number (outcomes.Refused status)) state.phase sent (at_step job Explaining) n work)
    (keeps_fail state state.phase sent job.step (reasons.Status status) n)

keeps_reply : (state : CentreState) (sent : List (List ℕ)) (job : Job) (number : ℕ) (reply : SnmpMessage)
    → IsNumbered state.settings state.next state.phase sent → IsWork job.work → KeepsAt state sent (on_reply state job number reply)
keeps_reply state sent job number reply n work =
    either_way (KeepsAt state sent) (int_eq reply.status (pos 0)) (on_success state job number reply.bindings job.step) (on_failure state job number reply.status)
    (keeps_success state sent job number reply.bindings job.step n work)
    (keeps_failure state sent job number reply.status n work)

-- ---- a datagram

keeps_message : (state : CentreState) (sent : List (List ℕ)) (phase : Phase) (message : SnmpMessage) → IsNumbered state.settings state.next state.phase sent
    → IsAtWork phase → KeepsAt state sent (on_message state phase message)
keeps_message state sent Idle message n work = keeps_still state sent n
keeps_message state sent (Due job) message n work = keeps_still state sent n
keeps_message state sent (Awaits job pending) message n work =
    either_way (KeepsAt state sent) (is_answer state pending.number message) (on_reply state job pending.number message) (rests state)
    (keeps_reply state sent job pending.number message n work)
    (keeps_still state sent n)

keeps_datagram : (state : CentreState) (sent : List (List ℕ)) (o : Option SnmpMessage) → IsNumbered state.settings state.next state.phase sent
    → KeepsAt state sent (on_datagram state o)
keeps_datagram state sent None n = keeps_still state sent n
keeps_datagram state sent (Some message) n = keeps_message state sent state.phase message n n.work

pub keeps_received : (state : CentreState) (sent : List (List ℕ)) (octets : List ℕ) → IsNumbered state.settings state.next state.phase sent
    → KeepsAt state sent (received state octets)
unfolding received
keeps_received state sent octets n = keeps_datagram state sent (message_of octets) n

-- ---- a command

-- no refusal: the command is good
is_taken : (busy used good : Bool) (a b c : CommandFault) → (if busy then Some a else if used then Some b else if not good then Some c else None) ≡ None → good ≡ true
is_taken busy used good a b c e = grind arith

keeps_begun : (state : CentreState) (sent : List (List ℕ)) (job : Job) (o : Option CommandFault) → IsNumbered state.settings state.next state.phase sent
    → (o ≡ None → IsWork job.work) → KeepsAt state sent (begins state job o)
keeps_begun state sent job None n work = keeps_sends state state.phase sent job n (work refl)
keeps_begun state sent job (Some fault) n work = keeps_still state sent n

pub is_begun : (state : CentreState) (command : CommandModel) → IsCommand command → refusal_of state command ≡ None → IsWork (job_of command).work
is_begun state command is p = grind (arith, is_job, is_taken, nat_lt)

pub keeps_commanded : (state : CentreState) (sent : List (List ℕ)) (command : CommandModel) → IsNumbered state.settings state.next state.phase sent → IsCommand command
    → KeepsAt state sent (commanded state command)
unfolding commanded
keeps_commanded state sent command n is = keeps_begun state sent (job_of command) (refusal_of state command) n (is_begun state command is)

-- ---- a tick

keeps_silence : (state : CentreState) (sent : List (List ℕ)) (job : Job) (pending : Pending) → IsNumbered state.settings state.next (Awaits job pending) sent
    → KeepsAt state sent (on_silence state job pending)
keeps_silence state sent job pending n =
    either_way (KeepsAt state sent) (nat_lt (pending.age + 1) 3) (rests (record state { phase = Awaits job (older pending) }))
    (if nat_lt pending.sends 3 then sends_again state job pending else fails (gives_up state outcomes.NoReply) job.step reasons.NoReply)
    (keeps_rest (record state { phase = Awaits job (older pending) }) (Awaits job pending) sent n n.work (record {
      newest = n.out.newest;
      request = n.out.request;
      place = n.out.place;
      there = n.out.there;
      counted = n.out.counted;
      few = n.out.few;
    }))
    (by_test (KeepsAt state sent) (nat_lt pending.sends 3) (sends_again state job pending) (fails (gives_up state outcomes.NoReply) job.step reasons.NoReply)
    (λ room. record {
      numbered = numbered_again state.settings state.next sent job pending n (grind (arith, nat_tests, room));
      settings_stay = refl;
      sends = Again pending.octets n.out.place refl n.out.there refl;
    })
    (λ none. keeps_fail (gives_up state outcomes.NoReply) (Awaits job pending) sent job.step reasons.NoReply n))

keeps_tick : (state : CentreState) (sent : List (List ℕ)) (phase : Phase) → phase ≡ state.phase → IsNumbered state.settings state.next phase sent
    → KeepsAt state sent (on_tick state phase)
keeps_tick state sent Idle e n = keeps_rest state Idle sent n (subst IsAtWork e n.work) (subst (λ p. IsAwaited state.settings state.next p sent) e n.out)
keeps_tick state sent (Due job) e n = keeps_sends state (Due job) sent job n n.work
keeps_tick state sent (Awaits job pending) e n = keeps_silence state sent job pending n

pub keeps_ticked : (state : CentreState) (sent : List (List ℕ)) → IsNumbered state.settings state.next state.phase sent → KeepsAt state sent (ticked state)
unfolding ticked
keeps_ticked state sent n = keeps_tick state sent state.phase refl n

-- ---- a restart

keeps_forgotten : (state : CentreState) (sent : List (List ℕ)) (phase : Phase) → phase ≡ state.phase → IsNumbered state.settings state.next phase sent
    → KeepsAt state sent (rests (forgets state phase))
keeps_forgotten state sent Idle e n = keeps_rest state Idle sent n (subst IsAtWork e n.work) (subst (λ p. IsAwaited state.settings state.next p sent) e n.out)
keeps_forgotten state sent (Due job) e n = keeps_rest (forgets state (Due job)) (Due job) sent n tt tt
keeps_forgotten state sent (Awaits job pending) e n = keeps_rest (forgets state (Awaits job pending)) (Awaits job pending) sent n tt tt

pub keeps_restarted : (state : CentreState) (sent : List (List ℕ)) → IsNumbered state.settings state.next state.phase sent → KeepsAt state sent (rests (restarted state))
unfolding restarted
keeps_restarted state sent n = keeps_forgotten (gives_up state outcomes.Unknown) sent state.phase refl n

-- ---- one input after another

pub keeps_input : (history : History) (input : Input) → HistoryIsNumbered history → IsInput input
    → KeepsAt history.state history.sent (move_at history.state input)
keeps_input history i n (OfCommand command is) = keeps_commanded history.state history.sent command n is
keeps_input history i n (OfDatagram octets) = keeps_received history.state history.sent octets n
keeps_input history i n OfTick = keeps_ticked history.state history.sent n
keeps_input history i n OfRestart = keeps_restarted history.state history.sent n

pub numbered_made : (settings : SettingsModel) (first : ℕ) → AreSettings settings → HistoryIsNumbered (made settings first)
numbered_made settings first fine = grind arith

pub numbered_after : (inputs : List Input) (history : History) → HistoryIsNumbered history → AllByRecursion IsInput inputs → HistoryIsNumbered (after_inputs history inputs)
numbered_after [] history n are = n
numbered_after (input ∷ inputs) history n are = numbered_after inputs (after_input history input) (keeps_input history input n are.0).numbered are.1
