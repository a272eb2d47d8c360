-- The moves of Sending, Replies and Inputs as functions of a state and its phase, whatever the phase is: where the
-- phase cannot be, nothing happens (this profile).
use Rattle.std.specs.Prelude.{ℕ, ℤ, Bool, true, false, List, []}
use Rattle.dms_wire.specs.Message.{VarBind, SnmpMessage}
use Rattle.dms_centre_jobs.specs.declared.step.Step.{Step}
use Rattle.dms_centre_jobs.specs.declared.step.Step.TheVariants.{Opening, Opened, Filling, Validating, Polling}
use Rattle.dms_centre_jobs.specs.declared.step.Step.TheVariants.{Comparing}
use Rattle.dms_centre_jobs.specs.declared.step.Step.TheVariants.{Activating, Explaining}
use Rattle.dms_centre_jobs.specs.Steps.{is_activating}
use Rattle.dms_centre.specs.State.{CentreState, Phase, Idle, Awaits, Due}
use Rattle.dms_centre.specs.Sending.{Move, rests, at_step, sends}
use Rattle.dms_centre.specs.Replies.{is_answer, on_success, on_failure, on_read, on_number, number_read, asked}
use Rattle.dms_centre.specs.Replies.{polled_again, own_checksum}
use Rattle.dms_centre.specs.Room.{enters}

abbrev pub is_awaiting : Phase → Bool
is_awaiting Idle = false
is_awaiting (Awaits job pending) = true
is_awaiting (Due job) = false

-- an activation waits for its reply
abbrev pub awaits_activation : Phase → Bool
awaits_activation Idle = false
awaits_activation (Awaits job pending) = is_activating job.step
awaits_activation (Due job) = false

-- the request of the job of a phase
abbrev pub sends_job : CentreState → Phase → Move
sends_job state Idle = rests state
sends_job state (Awaits job pending) = sends state job
sends_job state (Due job) = sends state job

abbrev pub sends_at : CentreState → Phase → Step → Move
sends_at state Idle step = rests state
sends_at state (Awaits job pending) step = sends state (at_step job step)
sends_at state (Due job) step = sends state (at_step job step)

-- sending it makes an entry of the ledger
abbrev pub adds_entry : CentreState → Phase → Bool
adds_entry state Idle = false
adds_entry state (Awaits job pending) = enters state job
adds_entry state (Due job) = enters state job

-- the message answers the waiting request
abbrev pub is_answered : CentreState → Phase → SnmpMessage → Bool
is_answered state Idle message = false
is_answered state (Awaits job pending) message = is_answer state pending.number message
is_answered state (Due job) message = false

-- the waiting request was answered without an error
abbrev pub succeeds : CentreState → Phase → List VarBind → Move
succeeds state Idle reported = rests state
succeeds state (Awaits job pending) reported = on_success state job pending.number reported job.step
succeeds state (Due job) reported = rests state

-- the waiting request was answered with an error
abbrev pub is_refused : CentreState → Phase → ℤ → Move
is_refused state Idle status = rests state
is_refused state (Awaits job pending) status = on_failure state job pending.number status
is_refused state (Due job) status = rests state

-- a number was asked for
abbrev pub reads : CentreState → Phase → List VarBind → Move
reads state Idle reported = rests state
reads state (Awaits job pending) reported = on_read state job (number_read (asked state job) reported)
reads state (Due job) reported = rests state

abbrev pub reads_at : Step → Bool
reads_at Opening = false
reads_at Opened = true
reads_at Filling = false
reads_at Validating = false
reads_at Polling = true
reads_at Comparing = true
reads_at Activating = false
reads_at Explaining = true

-- the waiting request asks for a number
abbrev pub is_reading : Phase → Bool
is_reading Idle = false
is_reading (Awaits job pending) = reads_at job.step
is_reading (Due job) = false

-- what it asks for
abbrev pub asked_at : CentreState → Phase → List VarBind
asked_at state Idle = []
asked_at state (Awaits job pending) = asked state job
asked_at state (Due job) = []

abbrev pub takes : CentreState → Phase → ℤ → Move
takes state Idle number = rests state
takes state (Awaits job pending) number = on_number state job job.step number
takes state (Due job) number = rests state

abbrev pub polls_again : CentreState → Phase → Move
polls_again state Idle = rests state
polls_again state (Awaits job pending) = polled_again state job
polls_again state (Due job) = rests state

abbrev pub checksum_of_job : CentreState → Phase → ℕ
checksum_of_job state Idle = 0
checksum_of_job state (Awaits job pending) = own_checksum state.settings.order job.work
checksum_of_job state (Due job) = 0
