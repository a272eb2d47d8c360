-- The state that a central system takes up of a text's lines, or the first line that is not as it must be. Inner words
-- of the readers (this profile).
use Rattle.std.specs.Prelude.{ℕ, zero, suc, ◌+◌, ◌-◌, ◌==◌, ◌&&◌, ◌||◌, Bool, true, false, not, nat_le, nat_lt}
use Rattle.std.specs.Prelude.{if◌then◌else◌, List, [], ◌∷◌, codes, length, Option, Some, None, Result, Ok, Err}
use Rattle.std.specs.Option.{option_or}
use Rattle.std.specs.Borrow.{Bor}
use Rattle.dms_text.specs.Reading.{same_octets}
use Rattle.dms_codes.specs.declared.codes.Order.{Order}
use Rattle.dms_codes.specs.declared.codes.Activation.{Activation}
use Rattle.dms_centre_jobs.specs.Job.{Job}
use Rattle.dms_centre_jobs.specs.Commands.{is_good, job_of}
use Rattle.dms_centre_jobs.specs.CodeView.{command_model}
use Rattle.dms_centre.specs.declared.restoring.SavedJob.{SavedJob}
use Rattle.dms_centre.specs.declared.restoring.JobFault.{JobFault}
use Rattle.dms_centre.specs.declared.restoring.JobFault.TheVariants as jobs
use Rattle.dms_centre.specs.declared.outcome.Outcome.{Outcome}
use Rattle.dms_centre.specs.State.{Entry, CentreState, is_busy}
use Rattle.dms_centre.specs.Replies.{most_polls}
use Rattle.dms_centre.specs.Resending.{is_waiting}
use Rattle.dms_centre.specs.Restoring.{number_after, entry_fault, with_entry, suits, stage_fault}
use Rattle.dms_centre.specs.Restoring.{waits_for_activation, with_job, end_fault, with_last}
use Rattle.dms_centre_state.specs.CentreText.{text_of_state}
use Rattle.dms_centre_text.specs.CommandView.{owned_command_model}
use Rattle.dms_centre_restored.specs.declared.refusal.CentreStateField.{CentreStateField}
use Rattle.dms_centre_restored.specs.declared.refusal.CentreStateField.TheVariants as fields
use Rattle.dms_centre_restored.specs.declared.refusal.CentreLineLack.{CentreLineLack}
use Rattle.dms_centre_restored.specs.declared.job_lines.JobLines.{JobLines}
use Rattle.dms_centre_restored.specs.declared.ledger_lines.EntryLine.{EntryLine}
use Rattle.dms_centre_restored.specs.Lacks.{here, wanting, unless, ◌>>=◌}
use Rattle.dms_text_exact.specs.Fronts.{starts_with}
use Rattle.dms_centre_restored.specs.LineReading.{field_at, ended_in, entry_line_at, end_at}
use Rattle.dms_centre_restored.specs.JobReading.{first_lines_at, JobRead, job_lines_at}

-- ---- jobs

-- the job of the lines, and as it is handed over
abbrev pub job_read : JobLines → JobRead
job_read job =
    record { command = owned_command_model job.command; step = job.step; polls = job.polls; stage = job.stage }

abbrev pub saved_read : SavedJob → JobRead
saved_read job =
    record { command = command_model job.command; step = job.step; polls = job.polls; stage = job.stage }

abbrev pub job_lent : Option (Bor JobLines) → Option JobRead
job_lent None = None
job_lent (Some job) = Some (job_read job.now)

abbrev pub job_found : Option JobLines → Option JobRead
job_found None = None
job_found (Some job) = Some (job_read job)

-- its work, on its step
abbrev pub job_of_read : JobRead → Job
job_of_read job = record { work = (job_of job.command).work; step = job.step; polls = job.polls }

-- its activation waits for a reply
abbrev pub waits : JobRead → Bool
waits job = waits_for_activation job.stage job.step

-- what is wrong with it: `job_fault` of what is read
abbrev pub read_fault : CentreState → JobRead → Option JobFault
read_fault s job =
    if is_busy s.phase then Some jobs.Busy
    else option_or (stage_fault s.next job.step job.stage) (option_or
    (if not (is_good job.command) then Some jobs.Command
    else if not (suits (job_of job.command).work job.step) then Some jobs.Step
    else if not (nat_lt job.polls most_polls) then Some jobs.Polls
    else None)
    (if waits job && not (nat_lt (number_after s.ledger) s.next) then Some jobs.Entry else None))

-- ---- entries

abbrev pub entry_read : EntryLine → Entry
entry_read line = record { number = line.number; code = line.code; outcome = line.outcome }

abbrev pub numbered_entry : ℕ × Activation × Outcome → Entry
numbered_entry x = record { number = x.0; code = x.1; outcome = x.2 }

-- the number of an entry that was taken up, and the text after it
abbrev pub next_found : Option (ℕ × Bor (List ℕ)) → Option (ℕ × List ℕ)
next_found None = None
next_found (Some found) = Some (found.0, found.1.now)

-- ---- what is taken up, where nothing is wrong with it; else this lacks

abbrev pub with_read_entry : CentreLineLack → CentreState → Entry → Result CentreState CentreLineLack
with_read_entry lack s entry = unless lack (entry_fault s entry.number entry.outcome) (with_entry s entry)

abbrev pub with_read_job : CentreLineLack → CentreState → JobRead → Result CentreState CentreLineLack
with_read_job lack s job = unless lack (read_fault s job) (with_job s (job_of_read job) job.stage)

unfoldable pub last_line_at : CentreState → List ℕ → Result (CentreState × List ℕ) CentreLineLack
last_line_at s text = do
  field ← wanting fields.Last text (field_at (codes "last ") text)
  ended ← wanting fields.Last text (ended_in field.0)
  t ← unless (here fields.Last text) (end_fault ended) (with_last s ended)
  Ok (t, field.1)

-- ---- the ledger

-- an entry that can be next: of a number from the least to the one before the next request's
abbrev pub entry_wanted : CentreState → ℕ → CentreStateField
entry_wanted s least = fields.Entry least (s.next - 1)

-- an entry is taken up, unless it is that of an activation that waits
abbrev pub with_settled
    : Bool → CentreLineLack → CentreState → Entry × List ℕ → Result (CentreState × Option (ℕ × List ℕ)) CentreLineLack
with_settled waits lack s found =
    if waits && found.0.number + 1 == s.next then Ok (s, None)
    else (with_read_entry lack s found.0 >>= (λ t. Ok (t, Some (found.0.number, found.1))))

-- one entry more, if one is next: its number, and the text after it
unfoldable pub next_entry_at
    : Order → Bool → CentreState → ℕ → List ℕ → Result (CentreState × Option (ℕ × List ℕ)) CentreLineLack
next_entry_at order waits s least text =
    if nat_le s.next least || not (starts_with (codes "ledger ") text) then Ok (s, None)
    else (wanting (entry_wanted s least) text (entry_line_at order least (s.next - 1) text)
    >>= with_settled waits (here (entry_wanted s least) text) s)

abbrev pub or_these : {A : Type 0} → Option (ℕ × List ℕ) → A → (ℕ → List ℕ → A) → A
or_these None none more = none
or_these (Some found) none more = more (found.0 + 1) found.1

-- so many entries at most; the least number that one more can have, and the text after them
unfoldable pub entries_at
    : Order → Bool → ℕ → CentreState → ℕ → List ℕ → Result (CentreState × (ℕ × List ℕ)) CentreLineLack
entries_at order waits zero s least text = Ok (s, (least, text))
entries_at order waits (suc more) s least text =
    next_entry_at order waits s least text
    >>= (λ found. or_these found.1 (Ok (found.0, (least, text))) (entries_at order waits more found.0))

-- the same codes, octet by octet
abbrev pub same_codes : Activation → Activation → Bool
same_codes one other =
    one.minutes == other.minutes && (one.priority == other.priority && (one.id.memory == other.id.memory
    && (one.id.number == other.id.number && (one.id.crc == other.id.crc && same_octets one.address other.address))))

-- the last entry is of this code
abbrev pub has_last_code : List Entry → Activation → Bool
has_last_code [] code = false
has_last_code (entry ∷ []) code = same_codes entry.code code
has_last_code (entry ∷ next ∷ ledger) code = has_last_code (next ∷ ledger) code

-- the entry that was read is that which came with the job
abbrev pub is_entered : CentreState → Entry → Bool
is_entered s entry = is_waiting entry.outcome && has_last_code s.ledger entry.code

-- the job whose activation waits, and its entry
unfoldable pub activation_taken_at
    : Order → CentreState → JobRead → ℕ → List ℕ → Result (CentreState × List ℕ) CentreLineLack
activation_taken_at order s job least text = do
  found ← wanting (entry_wanted s least) text (entry_line_at order least (s.next - 1) text)
  t ← with_read_job (here (entry_wanted s least) text) s job
  if is_entered t found.0 then Ok (t, found.1) else Err (here (entry_wanted s least) text)

-- a job behind the entries that do not wait
abbrev pub with_job_behind
    : Order → JobRead → CentreState × (ℕ × List ℕ) → Result (CentreState × List ℕ) CentreLineLack
with_job_behind order job read =
    if waits job then activation_taken_at order read.0 job read.1.0 read.1.1
    else (with_read_job (here fields.End read.1.1) read.0 job >>= (λ t. Ok (t, read.1.1)))

abbrev pub behind_entries
    : Order → Option JobRead → CentreState × (ℕ × List ℕ) → Result (CentreState × List ℕ) CentreLineLack
behind_entries order None read = Ok (read.0, read.1.1)
behind_entries order (Some job) read = with_job_behind order job read

abbrev pub job_waits : Option JobRead → Bool
job_waits None = false
job_waits (Some job) = waits job

-- the ledger, and the job that is on
unfoldable pub ledger_at : Order → Option JobRead → CentreState → List ℕ → Result (CentreState × List ℕ) CentreLineLack
ledger_at order job s text = do
  read ← entries_at order (job_waits job) (length text) s 0 text
  behind_entries order job read

-- ---- the whole

-- what stands behind the first two lines
unfoldable pub lines_at : CentreState → List ℕ → Result CentreState CentreLineLack
lines_at s text = do
  last ← last_line_at s text
  job ← job_lines_at s.settings.order s.next last.1
  ledger ← ledger_at s.settings.order job.0 last.0 job.1
  end ← wanting fields.End ledger.1 (end_at ledger.1)
  Ok ledger.0

-- the number that the next request takes, and 0 where the text says none
abbrev pub first_number_in : Result (ℕ × List ℕ) CentreLineLack → ℕ
first_number_in (Err lack) = 0
first_number_in (Ok found) = found.0

-- how many octets are the same before the first that differs
abbrev pub same_front : List ℕ → List ℕ → ℕ
same_front [] others = 0
same_front (octet ∷ octets) [] = 0
same_front (octet ∷ octets) (other ∷ others) = if octet == other then 1 + same_front octets others else 0

-- the text of what was read is the text; else it differs there
abbrev pub compared : List ℕ → List ℕ → Result Bool CentreLineLack
compared written text =
    if same_octets written text then Ok true
    else Err (record { wanted = fields.Spelling; left = length text - same_front written text })

-- the state of a whole text, which has just this text
unfoldable pub taken_at : CentreState → List ℕ → Result CentreState CentreLineLack
taken_at s text = do
  first ← first_lines_at text
  t ← lines_at s first.1
  same ← compared (text_of_state t) text
  Ok t
