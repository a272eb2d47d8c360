-- What a central system takes up of a saved state, and what it refuses (this profile).
use Rattle.std.specs.Prelude.{ℕ, ◌+◌, ◌-◌, ◌&&◌, Bool, true, false, not, nat_le, nat_lt, if◌then◌else◌}
use Rattle.std.specs.Prelude.{List, [], ◌∷◌, ◌++◌, Option, Some, None}
use Rattle.std.specs.Option.{option_or}
use Rattle.dms_wire_ber.specs.Integer.{in_range}
use Rattle.dms_wire.specs.Canonical.{canonical}
use Rattle.dms_centre_jobs.specs.declared.step.Step.{Step}
use Rattle.dms_centre_jobs.specs.declared.step.Step.TheVariants.{Polling, Activating, Explaining}
use Rattle.dms_centre_jobs.specs.Job.{Work, Publishing, Showing, Job}
use Rattle.dms_centre_jobs.specs.Steps.{is_activating, last_number, request_of}
use Rattle.dms_centre_jobs.specs.Commands.{is_good, job_of}
use Rattle.dms_centre_jobs.specs.CodeView.{command_model}
use Rattle.dms_centre.specs.declared.ended.Ended.{Ended}
use Rattle.dms_centre.specs.declared.ended.Ended.TheVariants.{Never, Accepted, Failed}
use Rattle.dms_centre.specs.declared.ended.Why.{Why}
use Rattle.dms_centre.specs.declared.ended.Why.TheVariants.{Status, WrongStatus, Cause}
use Rattle.dms_centre.specs.declared.outcome.Outcome.{Outcome}
use Rattle.dms_centre.specs.declared.outcome.Outcome.TheVariants.{Refused}
use Rattle.dms_centre.specs.declared.restoring.SavedJob.{SavedJob}
use Rattle.dms_centre.specs.declared.restoring.SavedStage.{SavedStage}
use Rattle.dms_centre.specs.declared.restoring.SavedStage.TheVariants as stages
use Rattle.dms_centre.specs.declared.restoring.EntryFault.{EntryFault}
use Rattle.dms_centre.specs.declared.restoring.EntryFault.TheVariants as entries
use Rattle.dms_centre.specs.declared.restoring.JobFault.{JobFault}
use Rattle.dms_centre.specs.declared.restoring.JobFault.TheVariants as jobs
use Rattle.dms_centre.specs.declared.restoring.EndFault.{EndFault}
use Rattle.dms_centre.specs.declared.restoring.EndFault.TheVariants as ends
use Rattle.dms_centre.specs.State.{Phase, Idle, Awaits, Due, Entry, CentreState, is_busy}
use Rattle.dms_centre.specs.Sending.{entered}
use Rattle.dms_centre.specs.Replies.{most_polls}
use Rattle.dms_centre.specs.Resending.{most_sends, ticks_to_wait, is_waiting}

-- ---- an entry of the ledger

-- the least number that a new entry can have: the numbers of entries rise
abbrev pub number_after : List Entry → ℕ
number_after [] = 0
number_after (entry ∷ []) = entry.number + 1
number_after (entry ∷ next ∷ ledger) = number_after (next ∷ ledger)

-- the number of an error-status is one that a reply can have
abbrev pub has_its_status : Outcome → Bool
has_its_status (Refused status) = in_range status
has_its_status outcome = true

-- the first reason not to put an entry that does not wait
abbrev pub entry_fault : CentreState → ℕ → Outcome → Option EntryFault
entry_fault s number outcome =
    if is_busy s.phase then Some entries.Busy
    else if not (nat_le (number_after s.ledger) number && nat_lt number s.next) then Some entries.Number
    else if is_waiting outcome then Some entries.Waiting
    else if not (has_its_status outcome) then Some entries.Status
    else None

abbrev pub with_entry : CentreState → Entry → CentreState
with_entry s entry = record s { ledger = s.ledger ++ entry ∷ [] }

-- ---- the job that is on

-- A message that the sign has is activated, and its refusal explained; one that is written takes all steps.
abbrev pub suits : Work → Step → Bool
suits (Publishing p) step = true
suits (Showing code) Activating = true
suits (Showing code) Explaining = true
suits (Showing code) step = false

-- a step whose request a tick sends
abbrev pub is_sent_by_ticks : Step → Bool
is_sent_by_ticks Polling = true
is_sent_by_ticks Activating = true
is_sent_by_ticks step = false

-- a command's work, on a step
abbrev pub job_saved : SavedJob → Job
job_saved saved = record {
  work = (job_of (command_model saved.command)).work;
  step = saved.step;
  polls = saved.polls;
}

-- the first thing that is wrong with how a job goes on; the request that waits has the number before the next one
abbrev pub stage_fault : (next : ℕ) → Step → SavedStage → Option JobFault
stage_fault next step stages.Due = if not (is_sent_by_ticks step) then Some jobs.Step else None
stage_fault next step (stages.Waits sends ticks) =
    if not (nat_le 1 next && nat_le next (last_number + 1)) then Some jobs.Number
    else if not (nat_le 1 sends && nat_le sends most_sends) then Some jobs.Sends
    else if not (nat_lt ticks ticks_to_wait) then Some jobs.Ticks
    else None

-- the first thing that is wrong with a job
abbrev pub work_fault : SavedJob → Option JobFault
work_fault saved =
    if not (is_good (command_model saved.command)) then Some jobs.Command
    else if not (suits (job_of (command_model saved.command)).work saved.step) then Some jobs.Step
    else if not (nat_lt saved.polls most_polls) then Some jobs.Polls
    else None

-- an activation waits
abbrev pub waits_for_activation : SavedStage → Step → Bool
waits_for_activation stages.Due step = false
waits_for_activation (stages.Waits sends ticks) step = is_activating step

-- the first reason not to put a job
abbrev pub job_fault : CentreState → SavedJob → Option JobFault
job_fault s saved =
    if is_busy s.phase then Some jobs.Busy
    else option_or (stage_fault s.next saved.step saved.stage) (option_or (work_fault saved)
    (if waits_for_activation saved.stage saved.step && not (nat_lt (number_after s.ledger) s.next) then Some jobs.Entry
    else None))

-- the request of the job waits, under the number before the next one; that of an activation has an entry
abbrev pub with_request : CentreState → Job → (sends ticks : ℕ) → CentreState
with_request s job sends ticks = record s {
  phase = Awaits job (record {
    number = s.next - 1;
    octets = canonical (request_of s.settings (s.next - 1) job.work job.step);
    sends = sends;
    age = ticks;
  });
  ledger = entered s.ledger (s.next - 1) job;
}

abbrev pub with_job : CentreState → Job → SavedStage → CentreState
with_job s job stages.Due = record s { phase = Due job }
with_job s job (stages.Waits sends ticks) = with_request s job sends ticks

-- ---- how the last job ended

-- the number that a reply reported is one that a reply can have
abbrev pub has_its_number : Why → Bool
has_its_number (Status status) = in_range status
has_its_number (WrongStatus status) = in_range status
has_its_number (Cause cause) = in_range cause
has_its_number why = true

-- the first reason not to take up how the last job ended
abbrev pub end_fault : Ended → Option EndFault
end_fault Never = None
end_fault Accepted = None
end_fault (Failed step why) =
    if not (nat_le 1 step && nat_le step 8) then Some ends.Step
    else if not (has_its_number why) then Some ends.Number
    else None

abbrev pub with_last : CentreState → Ended → CentreState
with_last s ended = record s { last = ended }

-- ---- inside the crate

-- an activation is to be sent
abbrev pub is_of_activation : Phase → Bool
is_of_activation Idle = false
is_of_activation (Awaits job pending) = is_activating job.step
is_of_activation (Due job) = is_activating job.step

-- the request of the job of a phase waits
abbrev pub with_request_of : CentreState → Phase → (sends ticks : ℕ) → CentreState
with_request_of s Idle sends ticks = s
with_request_of s (Awaits job pending) sends ticks = with_request s job sends ticks
with_request_of s (Due job) sends ticks = with_request s job sends ticks
