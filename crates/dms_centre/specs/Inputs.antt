-- What the central system does with a datagram, at a tick and at a restart (this profile).
use Rattle.std.specs.Prelude.{ℕ, List, Option, Some, None, if◌then◌else◌}
use Rattle.dms_wire.specs.Message.{SnmpMessage}
use Rattle.dms_wire.specs.MessageOf.{message_of}
use Rattle.dms_centre.specs.declared.ended.Ended.TheVariants.{Failed}
use Rattle.dms_centre.specs.declared.ended.Why.TheVariants as reasons
use Rattle.dms_centre.specs.declared.outcome.Outcome.TheVariants.{Unknown}
use Rattle.dms_centre.specs.State.{Phase, Idle, Awaits, Due, CentreState}
use Rattle.dms_centre_jobs.specs.Steps.{step_number}
use Rattle.dms_centre.specs.Sending.{Move, rests, ends, sends}
use Rattle.dms_centre.specs.Replies.{on_reply, is_answer}
use Rattle.dms_centre.specs.Resending.{gives_up, on_silence}

-- ---- a datagram

-- What does not answer the waiting request changes nothing.
abbrev pub on_message : CentreState → Phase → SnmpMessage → Move
on_message state Idle message = rests state
on_message state (Due job) message = rests state
on_message state (Awaits job pending) message =
    if is_answer state pending.number message then on_reply state job pending.number message
    else rests state

abbrev pub on_datagram : CentreState → Option SnmpMessage → Move
on_datagram state None = rests state
on_datagram state (Some message) = on_message state state.phase message

unfoldable pub received : CentreState → List ℕ → Move
received state octets = on_datagram state (message_of octets)

-- ---- a tick

abbrev pub on_tick : CentreState → Phase → Move
on_tick state Idle = rests state
on_tick state (Due job) = sends state job
on_tick state (Awaits job pending) = on_silence state job pending

unfoldable pub ticked : CentreState → Move
ticked state = on_tick state state.phase

-- ---- a restart

abbrev pub forgets : CentreState → Phase → CentreState
forgets state Idle = state
forgets state (Due job) = ends state (Failed (step_number job.step) reasons.Restarted)
forgets state (Awaits job pending) = ends state (Failed (step_number job.step) reasons.Restarted)

-- The next number and the ledger stay; the waiting request is forgotten.
unfoldable pub restarted : CentreState → CentreState
restarted state = forgets (gives_up state Unknown) state.phase
