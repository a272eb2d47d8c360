-- What jobs put up comes from commands that were taken.
use Rattle.std.proofs.Common.{◌≡◌, ℕ, ℤ, pos, ◌+◌, inl, inr, if◌then◌else◌, List, Option, Some, None, slice_get, refl, ◌∙◌, subst, nat_le, nat_lt}
use Rattle.std.specs.Ordering.{int_eq}
use Rattle.dms_wire.specs.Message.{VarBind, SnmpMessage}
use Rattle.dms_wire.specs.MessageOf.{message_of}
use Rattle.dms_codes.specs.declared.status.Status.TheVariants as statuses
use Rattle.dms_codes.specs.Status.{status_number}
use Rattle.dms_centre.specs.declared.ended.Why.TheVariants as reasons
use Rattle.dms_centre.specs.declared.fault.CommandFault.{CommandFault}
use Rattle.dms_centre.specs.declared.outcome.Outcome.TheVariants as outcomes
use Rattle.dms_centre_jobs.specs.declared.step.Step.{Step}
use Rattle.dms_centre_jobs.specs.declared.step.Step.TheVariants.{Opening, Opened, Filling, Validating, Polling, Comparing, Activating, Explaining}
use Rattle.dms_centre_jobs.specs.Job.{Work, Job}
use Rattle.dms_centre.specs.State.{Phase, Idle, Awaits, Due, Entry, CentreState}
use Rattle.dms_centre_jobs.specs.Steps.{is_activating, code_of, last_number}
use Rattle.dms_centre.specs.Sending.{Move, rests, fails, waits, at_step, sends, sends_octets, request_octets}
use Rattle.dms_centre.specs.Replies.{decided, polled_again, is_status, own_checksum, on_number, number_read, on_read, asked, on_success, on_failure, on_reply, is_answer}
use Rattle.dms_centre_jobs.specs.Commands.{CommandModel, job_of}
use Rattle.dms_centre.specs.Commands.{refusal_of, begins, commanded}
use Rattle.dms_centre.specs.Resending.{gives_up, older, sends_again}
use Rattle.dms_centre.specs.Inputs.{on_message, on_datagram, received, on_tick, ticked, forgets, restarted}
use Rattle.dms_centre.specs.History.{Input, Commands, Hears, Ticks, Restarts, History, move_at, IsInput}
use Rattle.dms_centre_laws.proofs.Lists.{either_way}
use Rattle.dms_centre_laws.proofs.LedgerLaws.{HistoryIsKept, ledger_move}

-- the job of a phase puts up what P holds of
abbrev pub OfJob : (Work → Type 0) → Phase → Type 0
OfJob P Idle = Unit {0}
OfJob P (Due job) = P job.work
OfJob P (Awaits job pending) = P job.work

abbrev pub OfMove : (Work → Type 0) → Move → Type 0
OfMove P move = OfJob P move.state.phase

module _ (P : Work → Type 0) where
  of_sends : (state : CentreState) (job : Job) → P job.work → OfMove P (sends state job)
  unfolding sends
  of_sends state job p =
      either_way (OfMove P) (nat_le state.next last_number) (sends_octets state job (request_octets state job)) (fails state job.step reasons.NumbersUsedUp) p tt

  of_polled : (state : CentreState) (job : Job) → P job.work → OfMove P (polled_again state job)
  of_polled state job p =
      either_way (OfMove P) (nat_lt (job.polls + 1) 10) (waits state (record job { polls = job.polls + 1 })) (fails state Polling reasons.StillValidating) p tt

  of_number : (state : CentreState) (job : Job) (step : Step) (number : ℤ) → OfJob P state.phase → P job.work → OfMove P (on_number state job step number)
  of_number state job Opened number old p =
      either_way (OfMove P) (is_status number (status_number statuses.Modifying)) (sends state (at_step job Filling)) (fails state Opened (reasons.WrongStatus number))
      (of_sends state (at_step job Filling) p) tt
  of_number state job Polling number old p =
      either_way (OfMove P) (is_status number (status_number statuses.Valid)) (sends state (at_step job Comparing))
      (if is_status number (status_number statuses.Validating) then polled_again state job else fails state Polling (reasons.WrongStatus number))
      (of_sends state (at_step job Comparing) p)
      (either_way (OfMove P) (is_status number (status_number statuses.Validating)) (polled_again state job) (fails state Polling (reasons.WrongStatus number))
      (of_polled state job p) tt)
  of_number state job Comparing number old p =
      either_way (OfMove P) (int_eq number (pos (own_checksum state.settings.order job.work))) (waits state (at_step job Activating))
      (fails state Comparing reasons.OtherChecksum) p tt
  of_number state job Explaining number old p = tt
  of_number state job Opening number old p = old
  of_number state job Filling number old p = old
  of_number state job Validating number old p = old
  of_number state job Activating number old p = old

  of_read : (state : CentreState) (job : Job) (o : Option ℤ) → OfJob P state.phase → P job.work → OfMove P (on_read state job o)
  of_read state job None old p = tt
  of_read state job (Some number) old p = of_number state job job.step number old p

  of_success : (state : CentreState) (job : Job) (number : ℕ) (answered : List VarBind) (step : Step) → OfJob P state.phase → P job.work
      → OfMove P (on_success state job number answered step)
  of_success state job number answered Opening old p = of_sends state (at_step job Opened) p
  of_success state job number answered Filling old p = of_sends state (at_step job Validating) p
  of_success state job number answered Validating old p = of_sends state (at_step job Polling) p
  of_success state job number answered Activating old p = tt
  of_success state job number answered Opened old p = of_read state job (number_read (asked state job) answered) old p
  of_success state job number answered Polling old p = of_read state job (number_read (asked state job) answered) old p
  of_success state job number answered Comparing old p = of_read state job (number_read (asked state job) answered) old p
  of_success state job number answered Explaining old p = of_read state job (number_read (asked state job) answered) old p

  of_reply : (state : CentreState) (job : Job) (number : ℕ) (reply : SnmpMessage) → OfJob P state.phase → P job.work → OfMove P (on_reply state job number reply)
  of_reply state job number reply old p =
      either_way (OfMove P) (int_eq reply.status (pos 0)) (on_success state job number reply.bindings job.step) (on_failure state job number reply.status)
      (of_success state job number reply.bindings job.step old p)
      (either_way (OfMove P) (is_activating job.step) (sends (decided state number (outcomes.Refused reply.status)) (at_step job Explaining))
      (fails state job.step (reasons.Status reply.status))
      (of_sends (decided state number (outcomes.Refused reply.status)) (at_step job Explaining) p) tt)

  of_message : (state : CentreState) (phase : Phase) (message : SnmpMessage) → OfJob P state.phase → OfJob P phase → OfMove P (on_message state phase message)
  of_message state Idle message old p = old
  of_message state (Due job) message old p = old
  of_message state (Awaits job pending) message old p =
      either_way (OfMove P) (is_answer state pending.number message) (on_reply state job pending.number message) (rests state)
      (of_reply state job pending.number message old p) old

  of_datagram : (state : CentreState) (o : Option SnmpMessage) → OfJob P state.phase → OfMove P (on_datagram state o)
  of_datagram state None old = old
  of_datagram state (Some message) old = of_message state state.phase message old old

  of_received : (state : CentreState) (octets : List ℕ) → OfJob P state.phase → OfMove P (received state octets)
  unfolding received
  of_received state octets old = of_datagram state (message_of octets) old

  of_begun : (state : CentreState) (job : Job) (o : Option CommandFault) → OfJob P state.phase → (o ≡ None → P job.work) → OfMove P (begins state job o)
  of_begun state job None old p = of_sends state job (p refl)
  of_begun state job (Some fault) old p = old

  of_commanded : (state : CentreState) (command : CommandModel) → OfJob P state.phase → (refusal_of state command ≡ None → P (job_of command).work)
      → OfMove P (commanded state command)
  unfolding commanded
  of_commanded state command old p = of_begun state (job_of command) (refusal_of state command) old p

  of_tick : (state : CentreState) (phase : Phase) → OfJob P state.phase → OfJob P phase → OfMove P (on_tick state phase)
  of_tick state Idle old p = old
  of_tick state (Due job) old p = of_sends state job p
  of_tick state (Awaits job pending) old p =
      either_way (OfMove P) (nat_lt (pending.age + 1) 3) (rests (record state { phase = Awaits job (older pending) }))
      (if nat_lt pending.sends 3 then sends_again state job pending else fails (gives_up state outcomes.NoReply) job.step reasons.NoReply)
      p
      (either_way (OfMove P) (nat_lt pending.sends 3) (sends_again state job pending) (fails (gives_up state outcomes.NoReply) job.step reasons.NoReply) p tt)

  of_ticked : (state : CentreState) → OfJob P state.phase → OfMove P (ticked state)
  unfolding ticked
  of_ticked state old = of_tick state state.phase old old

  of_forgotten : (state : CentreState) (phase : Phase) → phase ≡ state.phase → OfJob P (forgets state phase).phase
  of_forgotten state Idle e = subst (OfJob P) e tt
  of_forgotten state (Due job) e = tt
  of_forgotten state (Awaits job pending) e = tt

  of_restarted : (state : CentreState) → OfMove P (rests (restarted state))
  unfolding restarted
  of_restarted state = of_forgotten (gives_up state outcomes.Unknown) state.phase refl

  -- what P has to hold of: the job of a command that is taken
  abbrev pub OfTaken : CentreState → Input → Type 0
  OfTaken state (Commands command) = refusal_of state command ≡ None → P (job_of command).work
  OfTaken state (Hears octets) = Unit {0}
  OfTaken state Ticks = Unit {0}
  OfTaken state Restarts = Unit {0}

  of_input : (state : CentreState) (input : Input) → OfJob P state.phase → OfTaken state input → OfMove P (move_at state input)
  of_input state (Commands command) old p = of_commanded state command old p
  of_input state (Hears octets) old p = of_received state octets old
  of_input state Ticks old p = of_ticked state old
  of_input state Restarts old p = of_restarted state

  -- the job's code and each of the ledger's
  pub record AreOf (state : CentreState) : Type 0 where
    pub job : OfJob P state.phase
    pub entries : (k : ℕ) (entry : Entry) → slice_get state.ledger k ≡ Some entry → (work : Work) × P work × (entry.code ≡ code_of work)

  pub are_of_input : (history : History) (input : Input) → HistoryIsKept history → IsInput input → AreOf history.state → OfTaken history.state input
      → AreOf (move_at history.state input).state
  are_of_input history input kept is are p =
      let job = of_input history.state input are.job p in
      let moves = (ledger_move history input kept is).moves in
      record {
        job = job;
        entries = λ k later e.
            elim (moves.each k later e) [
              | inl was ↦ (let old = are.entries k was.0 was.1 in (old.0, old.1, was.2.code ∙ old.2))
              | inr new ↦ (new.1.job.work, subst (OfJob P) new.1.phase job, new.1.code)
            ];
      }
