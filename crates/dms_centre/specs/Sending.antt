-- How the central system sends a request, and how a job ends (this profile).
use Rattle.std.specs.Prelude.{ℕ, ◌+◌, List, [], ◌∷◌, ◌++◌, Option, Some, None, nat_le, if◌then◌else◌}
use Rattle.dms_wire.specs.Canonical.{canonical}
use Rattle.dms_centre.specs.declared.ended.Ended.{Ended}
use Rattle.dms_centre.specs.declared.ended.Ended.TheVariants.{Failed}
use Rattle.dms_centre.specs.declared.ended.Why.{Why}
use Rattle.dms_centre.specs.declared.ended.Why.TheVariants as reasons
use Rattle.dms_centre.specs.declared.outcome.Outcome.TheVariants as outcomes
use Rattle.dms_centre_jobs.specs.declared.step.Step.{Step}
use Rattle.dms_centre_jobs.specs.Job.{Job}
use Rattle.dms_centre.specs.State.{Idle, Awaits, Due, Entry, CentreState}
use Rattle.dms_centre_jobs.specs.Steps.{step_number, is_activating, code_of, last_number, request_of}

-- what it does at an input: the datagram that it sends, if any, and its state after
pub record Move : Type 0 where
  pub sent : Option (List ℕ)
  pub state : CentreState

-- nothing is sent
abbrev pub rests : CentreState → Move
rests state = record { sent = None; state = state }

-- the job is done
abbrev pub ends : CentreState → Ended → CentreState
ends state ended = record state { phase = Idle; last = ended }

abbrev pub fails : CentreState → Step → Why → Move
fails state step why = rests (ends state (Failed (step_number step) why))

-- the job goes on at the next tick
abbrev pub waits : CentreState → Job → Move
waits state job = rests (record state { phase = Due job })

abbrev pub at_step : Job → Step → Job
at_step job step = record job { step = step }

-- an activation enters the ledger before it goes out
abbrev pub entered : List Entry → ℕ → Job → List Entry
entered ledger number job =
    if is_activating job.step
    then ledger ++ record { number = number; code = code_of job.work; outcome = outcomes.Waiting } ∷ []
    else ledger

-- the state once the job's request went out, under the next number
abbrev pub awaiting : CentreState → Job → List ℕ → CentreState
awaiting state job octets = record state {
  next = state.next + 1;
  phase = Awaits job (record { number = state.next; octets = octets; sends = 1; age = 0 });
  ledger = entered state.ledger state.next job;
}

abbrev pub request_octets : CentreState → Job → List ℕ
request_octets state job = canonical (request_of state.settings state.next job.work job.step)

abbrev pub sends_octets : CentreState → Job → List ℕ → Move
sends_octets state job octets = record { sent = Some octets; state = awaiting state job octets }

-- The job's request goes out under the next number; where there is none, the job fails.
unfoldable pub sends : CentreState → Job → Move
sends state job =
    if nat_le state.next last_number then sends_octets state job (request_octets state job)
    else fails state job.step reasons.NumbersUsedUp
