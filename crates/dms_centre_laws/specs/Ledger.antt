-- What becomes of the ledger, whatever comes in (this profile).
use Rattle.std.specs.Prelude.{◌≡◌, ℕ, ◌<◌, ◌⊎◌, pos, List, length, Some, None, slice_get, take}
use Rattle.dms_wire.specs.declared.message.Kind.TheVariants.{Response}
use Rattle.dms_wire.specs.Message.{SnmpMessage}
use Rattle.dms_wire.specs.MessageOf.{message_of}
use Rattle.dms_codes.specs.declared.codes.Activation.{Activation}
use Rattle.dms_centre.specs.declared.outcome.Outcome.{Outcome}
use Rattle.dms_centre.specs.declared.outcome.Outcome.TheVariants.{Waiting, Accepted, Refused, NoReply, Unknown}
use Rattle.dms_centre_jobs.specs.declared.step.Step.TheVariants.{Activating}
use Rattle.dms_centre_jobs.specs.Job.{SettingsModel, Work, Showing, Job}
use Rattle.dms_centre.specs.State.{Pending, Awaits, Entry}
use Rattle.dms_centre_jobs.specs.Steps.{code_of, request_of}
use Rattle.dms_centre.specs.Sending.{Move}
use Rattle.dms_centre_jobs.specs.Commands.{CommandModel, job_of}
use Rattle.dms_centre.specs.Commands.{refusal_of}
use Rattle.dms_centre.specs.History.{Input, Commands, Hears, Ticks, Restarts, made, after_inputs}
use Rattle.dms_centre_laws.specs.RequestNumbers.{HasNumber}

-- ---- at one input

-- a Response to the request of a number, with the centre's community
pub record Answers (settings : SettingsModel) (number : ℕ) (message : SnmpMessage) : Type 0 where
  pub response : message.kind ≡ Response
  pub community : message.community ≡ settings.community
  pub request : message.request ≡ pos number

-- What an input makes of the outcome of a number's entry. An outcome once known stays.
pub data Becomes (settings : SettingsModel) (number : ℕ) : Input → Outcome → Outcome → Type 0 where
  Stays : (input : Input) (outcome : Outcome) → Becomes settings number input outcome outcome
  IsAccepted : (octets : List ℕ) (reply : SnmpMessage) → message_of octets ≡ Some reply → Answers settings number reply
      → reply.status ≡ pos 0
      → Becomes settings number (Hears octets) Waiting Accepted
  IsRefused : (octets : List ℕ) (reply : SnmpMessage) → message_of octets ≡ Some reply → Answers settings number reply
      → (reply.status ≡ pos 0 → ⊥)
      → Becomes settings number (Hears octets) Waiting (Refused reply.status)
  IsUnheard : Becomes settings number Ticks Waiting NoReply
  IsForgotten : Becomes settings number Restarts Waiting Unknown

-- an entry, and that entry later
pub record EntryMoves (settings : SettingsModel) (input : Input) (entry later : Entry) : Type 0 where
  pub number : later.number ≡ entry.number
  pub code : later.code ≡ entry.code
  pub outcome : Becomes settings entry.number input entry.outcome later.outcome

-- octets that spell the request of this number that puts this code up
abbrev pub PutsUp : SettingsModel → ℕ → Activation → List ℕ → Type 0
PutsUp settings number code octets = message_of octets ≡ Some (request_of settings number (Showing code) Activating)

-- A new entry waits. Its code is that of the job, and the request of the next number, which puts the code up, goes out
-- and waits.
pub record IsNewEntry (settings : SettingsModel) (next : ℕ) (move : Move) (entry : Entry) : Type 0 where
  pub number : entry.number ≡ next
  pub waiting : entry.outcome ≡ Waiting
  pub job : Job
  pub pending : Pending
  pub phase : move.state.phase ≡ Awaits job pending
  pub code : entry.code ≡ code_of job.work
  pub octets : List ℕ
  pub sent : move.sent ≡ Some octets
  pub puts_up : PutsUp settings next entry.code octets

-- Entries stay in their places; at most one is new, and comes last.
pub record LedgerMoves (settings : SettingsModel) (next : ℕ) (before : List Entry) (input : Input)
    (move : Move) : Type 0 where
  pub kept : (k : ℕ) (entry : Entry) → slice_get before k ≡ Some entry
      → (later : Entry) × (slice_get move.state.ledger k ≡ Some later) × EntryMoves settings input entry later
  pub each : (k : ℕ) (later : Entry) → slice_get move.state.ledger k ≡ Some later
      → ((entry : Entry) × (slice_get before k ≡ Some entry) × EntryMoves settings input entry later)
      ⊎ ((k ≡ length before) × IsNewEntry settings next move later)

-- ---- at every moment

-- the request of the entry's number, which puts its code up, was sent
pub record WasSent (settings : SettingsModel) (sent : List (List ℕ)) (entry : Entry) : Type 0 where
  pub place : ℕ
  pub octets : List ℕ
  pub there : slice_get sent place ≡ Some octets
  pub puts_up : PutsUp settings entry.number entry.code octets

-- Entries have numbers below the next one, which rise, and each was sent.
pub record LedgerIsSent (settings : SettingsModel) (next : ℕ) (ledger : List Entry)
    (sent : List (List ℕ)) : Type 0 where
  pub below : (k : ℕ) (entry : Entry) → slice_get ledger k ≡ Some entry → entry.number < next
  pub rise : (j k : ℕ) (earlier later : Entry) → j < k → slice_get ledger j ≡ Some earlier
      → slice_get ledger k ≡ Some later → earlier.number < later.number
  pub was_sent : (k : ℕ) (entry : Entry) → slice_get ledger k ≡ Some entry → WasSent settings sent entry

-- Each datagram of an entry's number puts the entry's code up.
abbrev pub NumbersPutUpTheirCodes : SettingsModel → List Entry → List (List ℕ) → Type 0
NumbersPutUpTheirCodes settings ledger sent =
    (k j : ℕ) (entry : Entry) (octets : List ℕ) → slice_get ledger k ≡ Some entry → slice_get sent j ≡ Some octets
    → HasNumber entry.number octets
    → PutsUp settings entry.number entry.code octets

-- ---- whose code it is

-- the input at this place is a command that is taken, and this is what its job activates
pub record IsOrdered (settings : SettingsModel) (first : ℕ) (inputs : List Input) (work : Work) : Type 0 where
  pub place : ℕ
  pub command : CommandModel
  pub ordered : slice_get inputs place ≡ Some (Commands command)
  pub taken : refusal_of (after_inputs (made settings first) (take place inputs)).state command ≡ None
  pub work_is : work ≡ (job_of command).work

-- Each code of the ledger is that of a command that was taken.
abbrev pub CodesAreOrdered : SettingsModel → ℕ → List Input → List Entry → Type 0
CodesAreOrdered settings first inputs ledger =
    (k : ℕ) (entry : Entry) → slice_get ledger k ≡ Some entry
    → (work : Work) × IsOrdered settings first inputs work × (entry.code ≡ code_of work)
