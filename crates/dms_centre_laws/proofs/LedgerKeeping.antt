-- What each input makes of the ledger.
use Rattle.std.proofs.Common.{◌≡◌, ℕ, ℤ, pos, ◌+◌, ◌<◌, ◌==◌, Bool, true, false, if◌then◌else◌, List, [], ◌∷◌, ◌++◌, map, length, Option, Some, None, option_map, slice_get, refl, sym, ap, ◌∙◌, subst, arith, nat_le, nat_lt}
use Rattle.std.specs.Ordering.{int_eq}
use Rattle.std.specs.Prelude.{◌&&◌}
use Rattle.std.proofs.lemmas.List.{length-map}
use Rattle.std.proofs.lemmas.Option.{slice_get-map}
use Rattle.std.proofs.lemmas.Bool.Decides.{nat_tests, Decides-int_eq}
use Rattle.std.proofs.lemmas.Slice.Eq.{slice_eq-Decides}
use Rattle.dms_wire.specs.declared.message.Kind.{Kind}
use Rattle.dms_wire.specs.declared.message.Kind.TheVariants.{Response}
use Rattle.dms_wire.specs.Message.{SnmpMessage}
use Rattle.dms_wire.specs.MessageOf.{message_of}
use Rattle.dms_codes.specs.declared.status.Status.TheVariants as statuses
use Rattle.dms_codes.specs.Status.{status_number}
use Rattle.dms_centre.specs.declared.ended.Ended.TheVariants as endings
use Rattle.dms_centre.specs.declared.ended.Why.{Why}
use Rattle.dms_centre.specs.declared.ended.Why.TheVariants as reasons
use Rattle.dms_centre.specs.declared.fault.CommandFault.{CommandFault}
use Rattle.dms_centre.specs.declared.outcome.Outcome.{Outcome}
use Rattle.dms_centre.specs.declared.outcome.Outcome.TheVariants.{Waiting, Accepted, Refused, NoReply, Unknown}
use Rattle.dms_centre_jobs.specs.declared.step.Step.{Step}
use Rattle.dms_centre_jobs.specs.declared.step.Step.TheVariants.{Opening, Opened, Filling, Validating, Polling, Comparing, Activating, Explaining}
use Rattle.dms_centre_jobs.specs.Job.{SettingsModel, Work, Job}
use Rattle.dms_centre.specs.State.{Pending, Phase, Idle, Awaits, Due, Entry, CentreState}
use Rattle.dms_centre_jobs.specs.Steps.{is_activating, code_of, request_of, last_number}
use Rattle.dms_centre.specs.Sending.{Move, rests, ends, fails, waits, at_step, sends, sends_octets, request_octets}
use Rattle.dms_centre.specs.Replies.{with_outcome, decided, polled_again, is_status, own_checksum, on_number, number_read, on_read, asked, on_success, on_failure, on_reply, is_response, is_answer}
use Rattle.dms_centre_jobs.specs.Commands.{CommandModel, IsCommand, job_of}
use Rattle.dms_centre.specs.Commands.{refusal_of, begins, commanded}
use Rattle.dms_centre.specs.Resending.{is_waiting, given_up, gives_up, older, sends_again, on_silence}
use Rattle.dms_centre.specs.Inputs.{on_message, on_datagram, received, on_tick, ticked, forgets, restarted}
use Rattle.dms_centre_jobs.specs.Requests.{AreSettings, IsWork}
use Rattle.dms_centre.specs.History.{Input, Commands, Hears, Ticks, Restarts, IsInput, OfCommand, OfDatagram, OfTick, OfRestart, move_at}
use Rattle.dms_centre_laws.specs.Numbered.{IsAtWork}
use Rattle.dms_centre_laws.specs.Ledger.{Answers, Becomes, Stays, IsAccepted, IsRefused, IsUnheard, IsForgotten, EntryMoves, PutsUp, LedgerMoves}
use Rattle.dms_centre_laws.proofs.Lists.{either_way, by_test, on_left, in_push}
use Rattle.dms_centre_jobs.proofs.Requests.{request_reads}
use Rattle.dms_centre_laws.proofs.Keeping.{is_begun}

-- ---- what is kept up

-- every entry of this number waits
abbrev AreWaiting : ℕ → List Entry → Type 0
AreWaiting number ledger = (k : ℕ) (entry : Entry) → slice_get ledger k ≡ Some entry → entry.number ≡ number → entry.outcome ≡ Waiting

-- While an activation waits for its reply, its entry waits.
abbrev pub IsOpen : Phase → List Entry → Type 0
IsOpen Idle ledger = Unit {0}
IsOpen (Due job) ledger = Unit {0}
IsOpen (Awaits job pending) ledger = is_activating job.step ≡ true → AreWaiting pending.number ledger

abbrev pub AreBelow : ℕ → List Entry → Type 0
AreBelow next ledger = (k : ℕ) (entry : Entry) → slice_get ledger k ≡ Some entry → entry.number < next

pub record Ready (state : CentreState) : Type 0 where
  pub settings : AreSettings state.settings
  pub below : AreBelow state.next state.ledger
  pub open_entry : IsOpen state.phase state.ledger

-- what a move makes of the ledger
pub record LedgerKept (settings : SettingsModel) (next : ℕ) (before : List Entry) (input : Input) (move : Move) : Type 0 where
  pub moves : LedgerMoves settings next before input move
  pub open_entry : IsOpen move.state.phase move.state.ledger

abbrev pub KeptAt : CentreState → Input → Move → Type 0
KeptAt state input move = LedgerKept state.settings state.next state.ledger input move

-- ---- entries in their places

-- these entries, with what the input reports of them
record EntriesMove (settings : SettingsModel) (input : Input) (before ledger : List Entry) : Type 0 where
  same_length : length ledger ≡ length before
  kept : (k : ℕ) (entry : Entry) → slice_get before k ≡ Some entry → (later : Entry) × (slice_get ledger k ≡ Some later) × EntryMoves settings input entry later
  each : (k : ℕ) (later : Entry) → slice_get ledger k ≡ Some later → (entry : Entry) × (slice_get before k ≡ Some entry) × EntryMoves settings input entry later

entry_stays : (settings : SettingsModel) (input : Input) (entry : Entry) → EntryMoves settings input entry entry
entry_stays settings input entry = record { number = refl; code = refl; outcome = Stays input entry.outcome }

moves_same : (settings : SettingsModel) (input : Input) (before : List Entry) → EntriesMove settings input before before
moves_same settings input before = grind (arith, entry_stays)

mapped : {A : Type 0} (change : A → A) (o : Option A) (later : A) → option_map change o ≡ Some later → (entry : A) × (o ≡ Some entry) × (change entry ≡ later)
mapped change o later e = grind arith

moves_map : (settings : SettingsModel) (input : Input) (before : List Entry) (change : Entry → Entry)
    → ((k : ℕ) (entry : Entry) → slice_get before k ≡ Some entry → EntryMoves settings input entry (change entry)) → EntriesMove settings input before (map change before)
moves_map settings input before change moves = record {
  same_length = length-map before change;
  kept = λ k entry e. (change entry, slice_get-map change before k ∙ ap (option_map change) e, moves k entry e);
  each = λ k later e.
      let found = mapped change (slice_get before k) later (sym (slice_get-map change before k) ∙ e) in
      (found.0, found.1, subst (EntryMoves settings input found.0) found.2 (moves k found.0 found.1));
}

-- ---- moves

-- no new entry
kept_moved : (settings : SettingsModel) (next : ℕ) (before : List Entry) (input : Input) (move : Move) → EntriesMove settings input before move.state.ledger
    → IsOpen move.state.phase move.state.ledger → LedgerKept settings next before input move
kept_moved settings next before input move moved is_open = grind arith

-- the ledger as it was
kept_same : (state : CentreState) (input : Input) (move : Move) → move.state.ledger ≡ state.ledger → IsOpen move.state.phase state.ledger → KeptAt state input move
kept_same state input move same is_open =
    kept_moved state.settings state.next state.ledger input move (subst (EntriesMove state.settings input state.ledger) (sym same) (moves_same state.settings input state.ledger))
    (subst (IsOpen move.state.phase) (sym same) is_open)

abbrev with_ledger : Move → List Entry → Move
with_ledger move ledger = record { sent = move.sent; state = record { settings = move.state.settings; next = move.state.next; phase = move.state.phase; ledger = ledger; last = move.state.last } }

activating : (step : Step) → is_activating step ≡ true → step ≡ Activating
activating step e = grind arith

-- the request of an activation puts the job's code up
puts_up : (settings : SettingsModel) (number : ℕ) (work : Work) (step : Step) (octets : List ℕ) → message_of octets ≡ Some (request_of settings number work step)
    → step ≡ Activating → PutsUp settings number (code_of work) octets
unfolding request_of
puts_up settings number work step octets e is = subst (λ s. message_of octets ≡ Some (request_of settings number work s)) is e

-- the entries that moved have numbers below the next one
moved_below : (settings : SettingsModel) (input : Input) (next : ℕ) (before ledger : List Entry) → EntriesMove settings input before ledger → AreBelow next before → AreBelow next ledger
moved_below settings input next before ledger moved below k later e = grind arith

-- an activation goes out, and enters the ledger
kept_entered : (state : CentreState) (before : List Entry) (input : Input) (job : Job) (octets : List ℕ) → EntriesMove state.settings input before state.ledger
    → AreBelow state.next before → PutsUp state.settings state.next (code_of job.work) octets
    → LedgerKept state.settings state.next before input
    (with_ledger (sends_octets state job octets) (state.ledger ++ record { number = state.next; code = code_of job.work; outcome = Waiting } ∷ []))
kept_entered state before input job octets moved below puts = grind (arith, moved_below, on_left, in_push, puts_up)

-- a job that fails after the entries moved
kept_fail : (state : CentreState) (before : List Entry) (input : Input) (step : Step) (why : Why) → EntriesMove state.settings input before state.ledger
    → LedgerKept state.settings state.next before input (fails state step why)
kept_fail state before input step why moved = kept_moved state.settings state.next before input (fails state step why) moved tt

kept_sends : (state : CentreState) (before : List Entry) (input : Input) (job : Job) → EntriesMove state.settings input before state.ledger → AreBelow state.next before
    → AreSettings state.settings → IsWork job.work → LedgerKept state.settings state.next before input (sends state job)
unfolding sends
kept_sends state before input job moved below fine work =
    let octets = request_octets state job in
    let new : Entry = record { number = state.next; code = code_of job.work; outcome = Waiting } in
    by_test (LedgerKept state.settings state.next before input) (nat_le state.next last_number) (sends_octets state job octets) (fails state job.step reasons.NumbersUsedUp)
    (λ left.
    by_test (λ ledger. LedgerKept state.settings state.next before input (with_ledger (sends_octets state job octets) ledger)) (is_activating job.step)
    (state.ledger ++ new ∷ []) state.ledger
    (λ act.
    kept_entered state before input job octets moved below
    (puts_up state.settings state.next job.work job.step octets
    (request_reads state.settings state.next job.work job.step fine (grind (arith, nat_tests, left)) work) (activating job.step act)))
    (λ other. kept_moved state.settings state.next before input (with_ledger (sends_octets state job octets) state.ledger) moved (λ act. absurd (cc (act, other)))))
    (λ none. kept_fail state before input job.step reasons.NumbersUsedUp moved)

-- ---- the moves of a state whose ledger is as it was

still : (state : CentreState) (input : Input) → Ready state → KeptAt state input (rests state)
still state input ready = kept_same state input (rests state) refl ready.open_entry

fail : (state : CentreState) (input : Input) (step : Step) (why : Why) → KeptAt state input (fails state step why)
fail state input step why = kept_same state input (fails state step why) refl tt

wait : (state : CentreState) (input : Input) (job : Job) → KeptAt state input (waits state job)
wait state input job = kept_same state input (waits state job) refl tt

send : (state : CentreState) (input : Input) (job : Job) → Ready state → IsWork job.work → KeptAt state input (sends state job)
send state input job ready work = kept_sends state state.ledger input job (moves_same state.settings input state.ledger) ready.below ready.settings work

-- ---- a reply

kept_polled : (state : CentreState) (input : Input) (job : Job) → KeptAt state input (polled_again state job)
kept_polled state input job =
    either_way (KeptAt state input) (nat_lt (job.polls + 1) 10) (waits state (record job { polls = job.polls + 1 })) (fails state Polling reasons.StillValidating)
    (wait state input (record job { polls = job.polls + 1 }))
    (fail state input Polling reasons.StillValidating)

kept_number : (state : CentreState) (input : Input) (job : Job) (step : Step) (number : ℤ) → Ready state → IsWork job.work
    → KeptAt state input (on_number state job step number)
kept_number state input job Opened number ready work =
    either_way (KeptAt state input) (is_status number (status_number statuses.Modifying)) (sends state (at_step job Filling)) (fails state Opened (reasons.WrongStatus number))
    (send state input (at_step job Filling) ready work)
    (fail state input Opened (reasons.WrongStatus number))
kept_number state input job Polling number ready work =
    either_way (KeptAt state input) (is_status number (status_number statuses.Valid)) (sends state (at_step job Comparing))
    (if is_status number (status_number statuses.Validating) then polled_again state job else fails state Polling (reasons.WrongStatus number))
    (send state input (at_step job Comparing) ready work)
    (either_way (KeptAt state input) (is_status number (status_number statuses.Validating)) (polled_again state job) (fails state Polling (reasons.WrongStatus number))
    (kept_polled state input job)
    (fail state input Polling (reasons.WrongStatus number)))
kept_number state input job Comparing number ready work =
    either_way (KeptAt state input) (int_eq number (pos (own_checksum state.settings.order job.work))) (waits state (at_step job Activating))
    (fails state Comparing reasons.OtherChecksum)
    (wait state input (at_step job Activating))
    (fail state input Comparing reasons.OtherChecksum)
kept_number state input job Explaining number ready work = fail state input Activating (reasons.Cause number)
kept_number state input job Opening number ready work = still state input ready
kept_number state input job Filling number ready work = still state input ready
kept_number state input job Validating number ready work = still state input ready
kept_number state input job Activating number ready work = still state input ready

kept_read : (state : CentreState) (input : Input) (job : Job) (o : Option ℤ) → Ready state → IsWork job.work → KeptAt state input (on_read state job o)
kept_read state input job None ready work = fail state input job.step reasons.OddReply
kept_read state input job (Some number) ready work = kept_number state input job job.step number ready work

-- an entry that waits for this number's reply, and gets it
entry_decided : (settings : SettingsModel) (input : Input) (number : ℕ) (outcome : Outcome) (entry : Entry) → (entry.number ≡ number → entry.outcome ≡ Waiting)
    → Becomes settings number input Waiting outcome → EntryMoves settings input entry (with_outcome number outcome entry)
entry_decided settings input number outcome entry waiting becomes = grind (arith, by_test, entry_stays)

moves_decided : (state : CentreState) (input : Input) (number : ℕ) (outcome : Outcome) → AreWaiting number state.ledger → Becomes state.settings number input Waiting outcome
    → EntriesMove state.settings input state.ledger (decided state number outcome).ledger
moves_decided state input number outcome waiting becomes =
    moves_map state.settings input state.ledger (with_outcome number outcome)
    (λ k entry e. entry_decided state.settings input number outcome entry (waiting k entry e) becomes)

-- a reply that answers the request of a number was heard
record Heard (state : CentreState) (number : ℕ) (octets : List ℕ) (reply : SnmpMessage) : Type 0 where
  spelled : message_of octets ≡ Some reply
  answers : Answers state.settings number reply

kept_success : (state : CentreState) (job : Job) (number : ℕ) (octets : List ℕ) (reply : SnmpMessage) (step : Step) → Ready state → IsWork job.work
    → Heard state number octets reply → reply.status ≡ pos 0 → (is_activating step ≡ true → AreWaiting number state.ledger)
    → KeptAt state (Hears octets) (on_success state job number reply.bindings step)
kept_success state job number octets reply Opening ready work heard good waiting = send state (Hears octets) (at_step job Opened) ready work
kept_success state job number octets reply Filling ready work heard good waiting = send state (Hears octets) (at_step job Validating) ready work
kept_success state job number octets reply Validating ready work heard good waiting = send state (Hears octets) (at_step job Polling) ready work
kept_success state job number octets reply Activating ready work heard good waiting =
    kept_moved state.settings state.next state.ledger (Hears octets) (rests (ends (decided state number Accepted) endings.Accepted))
    (moves_decided state (Hears octets) number Accepted (waiting refl) (IsAccepted octets reply heard.spelled heard.answers good)) tt
kept_success state job number octets reply Opened ready work heard good waiting = kept_read state (Hears octets) job (number_read (asked state job) reply.bindings) ready work
kept_success state job number octets reply Polling ready work heard good waiting = kept_read state (Hears octets) job (number_read (asked state job) reply.bindings) ready work
kept_success state job number octets reply Comparing ready work heard good waiting = kept_read state (Hears octets) job (number_read (asked state job) reply.bindings) ready work
kept_success state job number octets reply Explaining ready work heard good waiting = kept_read state (Hears octets) job (number_read (asked state job) reply.bindings) ready work

kept_failure : (state : CentreState) (job : Job) (number : ℕ) (octets : List ℕ) (reply : SnmpMessage) → Ready state → IsWork job.work
    → Heard state number octets reply → (reply.status ≡ pos 0 → ⊥) → (is_activating job.step ≡ true → AreWaiting number state.ledger)
    → KeptAt state (Hears octets) (on_failure state job number reply.status)
kept_failure state job number octets reply ready work heard bad waiting =
    by_test (KeptAt state (Hears octets)) (is_activating job.step) (sends (decided state number (Refused reply.status)) (at_step job Explaining))
    (fails state job.step (reasons.Status reply.status))
    (λ act.
    kept_sends (decided state number (Refused reply.status)) state.ledger (Hears octets) (at_step job Explaining)
    (moves_decided state (Hears octets) number (Refused reply.status) (waiting act) (IsRefused octets reply heard.spelled heard.answers bad))
    ready.below ready.settings work)
    (λ other. fail state (Hears octets) job.step (reasons.Status reply.status))

not_noError : (status : ℤ) → int_eq status (pos 0) ≡ false → status ≡ pos 0 → ⊥
not_noError status no_match e = absurd (cc (no_match, (Decides-int_eq status (pos 0)).1 e))

kept_reply : (state : CentreState) (job : Job) (number : ℕ) (octets : List ℕ) (reply : SnmpMessage) → Ready state → IsWork job.work
    → Heard state number octets reply → (is_activating job.step ≡ true → AreWaiting number state.ledger)
    → KeptAt state (Hears octets) (on_reply state job number reply)
kept_reply state job number octets reply ready work heard waiting =
    by_test (KeptAt state (Hears octets)) (int_eq reply.status (pos 0)) (on_success state job number reply.bindings job.step) (on_failure state job number reply.status)
    (λ good. kept_success state job number octets reply job.step ready work heard ((Decides-int_eq reply.status (pos 0)).0 good) waiting)
    (λ bad. kept_failure state job number octets reply ready work heard (not_noError reply.status bad) waiting)

-- ---- a datagram

response_is : (kind : Kind) → is_response kind ≡ true → kind ≡ Response
response_is kind e = grind arith

left_of : (a b : Bool) → (a && b) ≡ true → a ≡ true
left_of a b e = grind arith

right_of : (a b : Bool) → (a && b) ≡ true → b ≡ true
right_of a b e = grind arith

answers : (state : CentreState) (number : ℕ) (message : SnmpMessage) → is_answer state number message ≡ true → Answers state.settings number message
answers state number message e = grind (arith, left_of, response_is, slice_eq-Decides, right_of)

kept_message : (state : CentreState) (octets : List ℕ) (phase : Phase) (message : SnmpMessage) → message_of octets ≡ Some message → Ready state → IsAtWork phase
    → IsOpen phase state.ledger → KeptAt state (Hears octets) (on_message state phase message)
kept_message state octets Idle message e ready work is_open = still state (Hears octets) ready
kept_message state octets (Due job) message e ready work is_open = still state (Hears octets) ready
kept_message state octets (Awaits job pending) message e ready work is_open =
    by_test (KeptAt state (Hears octets)) (is_answer state pending.number message) (on_reply state job pending.number message) (rests state)
    (λ is. kept_reply state job pending.number octets message ready work (record { spelled = e; answers = answers state pending.number message is }) is_open)
    (λ other. still state (Hears octets) ready)

kept_datagram : (state : CentreState) (octets : List ℕ) (o : Option SnmpMessage) → message_of octets ≡ o → Ready state → IsAtWork state.phase
    → KeptAt state (Hears octets) (on_datagram state o)
kept_datagram state octets None e ready work = still state (Hears octets) ready
kept_datagram state octets (Some message) e ready work = kept_message state octets state.phase message e ready work ready.open_entry

kept_received : (state : CentreState) (octets : List ℕ) → Ready state → IsAtWork state.phase → KeptAt state (Hears octets) (received state octets)
unfolding received
kept_received state octets ready work = kept_datagram state octets (message_of octets) refl ready work

-- ---- a command

kept_begun : (state : CentreState) (input : Input) (job : Job) (o : Option CommandFault) → Ready state → (o ≡ None → IsWork job.work) → KeptAt state input (begins state job o)
kept_begun state input job None ready work = send state input job ready (work refl)
kept_begun state input job (Some fault) ready work = still state input ready

kept_commanded : (state : CentreState) (command : CommandModel) → Ready state → IsCommand command → KeptAt state (Commands command) (commanded state command)
unfolding commanded
kept_commanded state command ready is = kept_begun state (Commands command) (job_of command) (refusal_of state command) ready (is_begun state command is)

-- ---- a tick

waiting_is : (outcome : Outcome) → is_waiting outcome ≡ true → outcome ≡ Waiting
waiting_is outcome e = grind arith

entry_given_up : (settings : SettingsModel) (input : Input) (outcome : Outcome) (entry : Entry) → ((number : ℕ) → Becomes settings number input Waiting outcome)
    → EntryMoves settings input entry (given_up outcome entry)
entry_given_up settings input outcome entry becomes = grind (arith, by_test, waiting_is, entry_stays)

moves_given_up : (state : CentreState) (input : Input) (outcome : Outcome) → ((number : ℕ) → Becomes state.settings number input Waiting outcome)
    → EntriesMove state.settings input state.ledger (gives_up state outcome).ledger
moves_given_up state input outcome becomes =
    moves_map state.settings input state.ledger (given_up outcome) (λ k entry e. entry_given_up state.settings input outcome entry becomes)

kept_silence : (state : CentreState) (job : Job) (pending : Pending) → IsOpen (Awaits job pending) state.ledger → KeptAt state Ticks (on_silence state job pending)
kept_silence state job pending is_open =
    either_way (KeptAt state Ticks) (nat_lt (pending.age + 1) 3) (rests (record state { phase = Awaits job (older pending) }))
    (if nat_lt pending.sends 3 then sends_again state job pending else fails (gives_up state NoReply) job.step reasons.NoReply)
    (kept_same state Ticks (rests (record state { phase = Awaits job (older pending) })) refl is_open)
    (either_way (KeptAt state Ticks) (nat_lt pending.sends 3) (sends_again state job pending) (fails (gives_up state NoReply) job.step reasons.NoReply)
    (kept_same state Ticks (sends_again state job pending) refl is_open)
    (kept_fail (gives_up state NoReply) state.ledger Ticks job.step reasons.NoReply (moves_given_up state Ticks NoReply (λ number. IsUnheard))))

kept_tick : (state : CentreState) (phase : Phase) → Ready state → IsAtWork phase → IsOpen phase state.ledger → KeptAt state Ticks (on_tick state phase)
kept_tick state Idle ready work is_open = still state Ticks ready
kept_tick state (Due job) ready work is_open = send state Ticks job ready work
kept_tick state (Awaits job pending) ready work is_open = kept_silence state job pending is_open

kept_ticked : (state : CentreState) → Ready state → IsAtWork state.phase → KeptAt state Ticks (ticked state)
unfolding ticked
kept_ticked state ready work = kept_tick state state.phase ready work ready.open_entry

-- ---- a restart

kept_forgotten : (state : CentreState) (phase : Phase) → phase ≡ state.phase → KeptAt state Restarts (rests (forgets (gives_up state Unknown) phase))
kept_forgotten state Idle e =
    kept_moved state.settings state.next state.ledger Restarts (rests (gives_up state Unknown)) (moves_given_up state Restarts Unknown (λ number. IsForgotten))
    (subst (λ p. IsOpen p (gives_up state Unknown).ledger) e tt)
kept_forgotten state (Due job) e =
    kept_moved state.settings state.next state.ledger Restarts (rests (forgets (gives_up state Unknown) (Due job))) (moves_given_up state Restarts Unknown (λ number. IsForgotten)) tt
kept_forgotten state (Awaits job pending) e =
    kept_moved state.settings state.next state.ledger Restarts (rests (forgets (gives_up state Unknown) (Awaits job pending)))
    (moves_given_up state Restarts Unknown (λ number. IsForgotten)) tt

kept_restarted : (state : CentreState) → KeptAt state Restarts (rests (restarted state))
unfolding restarted
kept_restarted state = kept_forgotten state state.phase refl

-- ---- each input

pub kept_input : (state : CentreState) (input : Input) → Ready state → IsAtWork state.phase → IsInput input → KeptAt state input (move_at state input)
kept_input state i ready work (OfCommand command is) = kept_commanded state command ready is
kept_input state i ready work (OfDatagram octets) = kept_received state octets ready work
kept_input state i ready work OfTick = kept_ticked state ready work
kept_input state i ready work OfRestart = kept_restarted state
