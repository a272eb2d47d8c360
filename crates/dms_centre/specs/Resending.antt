-- How the central system waits for a reply (this profile): it sends the octets again, a number of times, and then gives
-- up the activations that wait.
use Rattle.std.specs.Prelude.{ℕ, ◌+◌, Bool, true, false, map, Some, nat_lt, if◌then◌else◌}
use Rattle.dms_centre.specs.declared.ended.Why.TheVariants as reasons
use Rattle.dms_centre.specs.declared.outcome.Outcome.{Outcome}
use Rattle.dms_centre.specs.declared.outcome.Outcome.TheVariants.{Waiting, NoReply}
use Rattle.dms_centre_jobs.specs.Job.{Job}
use Rattle.dms_centre.specs.State.{Pending, Awaits, Entry, CentreState}
use Rattle.dms_centre.specs.Sending.{Move, rests, fails}

-- how many times a request goes out
abbrev pub most_sends : ℕ
most_sends = 3

-- how many ticks each time waits for its reply
abbrev pub ticks_to_wait : ℕ
ticks_to_wait = 3

-- ---- the ledger

abbrev pub is_waiting : Outcome → Bool
is_waiting Waiting = true
is_waiting outcome = false

abbrev pub given_up : Outcome → Entry → Entry
given_up outcome entry = if is_waiting entry.outcome then record entry { outcome = outcome } else entry

-- every entry that waits gets this outcome
abbrev pub gives_up : CentreState → Outcome → CentreState
gives_up state outcome = record state { ledger = map (given_up outcome) state.ledger }

-- ---- a tick without a reply

abbrev pub older : Pending → Pending
older pending = record pending { age = pending.age + 1 }

abbrev pub sent_again : Pending → Pending
sent_again pending = record pending { sends = pending.sends + 1; age = 0 }

abbrev pub sends_again : CentreState → Job → Pending → Move
sends_again state job pending =
    record { sent = Some pending.octets; state = record state { phase = Awaits job (sent_again pending) } }

-- At the third tick without a reply the octets are sent again, three times in all; then the job fails.
abbrev pub on_silence : CentreState → Job → Pending → Move
on_silence state job pending =
    if nat_lt (pending.age + 1) ticks_to_wait then rests (record state { phase = Awaits job (older pending) })
    else if nat_lt pending.sends most_sends then sends_again state job pending
    else fails (gives_up state NoReply) job.step reasons.NoReply
