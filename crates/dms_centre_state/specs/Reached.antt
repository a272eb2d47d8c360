-- What holds of each state that a central system comes to, whatever it is commanded and hears (this profile).
use Rattle.std.specs.Prelude.{◌≡◌, ℕ, ◌+◌, ◌<◌, ◌≤◌, ◌^◌, Bool, true, false, IsTrue, if◌then◌else◌, List, [], ◌∷◌, ◌++◌}
use Rattle.std.specs.List.{AllByRecursion}
use Rattle.dms_wire_ber.specs.Integer.{in_range}
use Rattle.dms_wire.specs.Canonical.{canonical}
use Rattle.dms_codes.specs.Codes.{IsActivation}
use Rattle.dms_centre_jobs.specs.Job.{SettingsModel, Job}
use Rattle.dms_centre_jobs.specs.Steps.{is_activating, code_of, last_number, request_of}
use Rattle.dms_centre_jobs.specs.Requests.{AreSettings, IsWork}
use Rattle.dms_centre.specs.declared.ended.Ended.{Ended}
use Rattle.dms_centre.specs.declared.ended.Ended.TheVariants.{Never, Accepted, Failed}
use Rattle.dms_centre.specs.declared.ended.Why.{Why}
use Rattle.dms_centre.specs.declared.ended.Why.TheVariants.{Status, WrongStatus, Cause}
use Rattle.dms_centre.specs.declared.outcome.Outcome.{Outcome}
use Rattle.dms_centre.specs.declared.outcome.Outcome.TheVariants.{Waiting, Refused}
use Rattle.dms_centre.specs.State.{Pending, Phase, Idle, Awaits, Due, Entry, CentreState}
use Rattle.dms_centre.specs.Replies.{most_polls}
use Rattle.dms_centre.specs.Resending.{most_sends, ticks_to_wait, is_waiting}
use Rattle.dms_centre.specs.Restoring.{suits, is_sent_by_ticks}
use Rattle.dms_centre.specs.Invariant.{Rise}

-- ---- the job

pub record IsJob (job : Job) : Type 0 where
  pub work : IsWork job.work
  pub step : suits job.work job.step ≡ true
  pub polls : job.polls < most_polls

-- The request that waits is that of its job's step, under the number before the next one.
pub record IsRequestOf (settings : SettingsModel) (next : ℕ) (job : Job) (pending : Pending) : Type 0 where
  pub newest : pending.number + 1 ≡ next
  pub number : pending.number ≤ last_number
  pub octets : pending.octets ≡ canonical (request_of settings pending.number job.work job.step)
  pub sent : 1 ≤ pending.sends
  pub sends : pending.sends ≤ most_sends
  pub age : pending.age < ticks_to_wait

abbrev pub IsPhaseOf : SettingsModel → ℕ → Phase → Type 0
IsPhaseOf settings next Idle = Unit {0}
IsPhaseOf settings next (Awaits job pending) = IsJob job × IsRequestOf settings next job pending
IsPhaseOf settings next (Due job) = IsJob job × (is_sent_by_ticks job.step ≡ true)

-- ---- the ledger

-- the number of an error-status, or of a reason, is one that a reply can have
abbrev pub IsOutcome : Outcome → Type 0
IsOutcome (Refused status) = IsTrue (in_range status)
IsOutcome outcome = Unit {0}

pub record IsEntry (entry : Entry) : Type 0 where
  pub code : IsActivation entry.code
  pub outcome : IsOutcome entry.outcome

abbrev pub is_settled : Entry → Type 0
is_settled entry = is_waiting entry.outcome ≡ false

-- the entry of the activation that waits for its reply, where one does
abbrev pub waiting_entries : Phase → List Entry
waiting_entries Idle = []
waiting_entries (Awaits job pending) =
    if is_activating job.step
    then record { number = pending.number; code = code_of job.work; outcome = Waiting } ∷ []
    else []
waiting_entries (Due job) = []

-- All entries are settled, but for that one, which is the last.
pub record IsLedgerOf (next : ℕ) (phase : Phase) (ledger : List Entry) : Type 0 where
  pub rise : Rise 0 next ledger
  pub entries : AllByRecursion IsEntry ledger
  pub settled : List Entry
  pub are_settled : AllByRecursion is_settled settled
  pub is : ledger ≡ settled ++ waiting_entries phase

-- ---- the end of the last job

abbrev pub IsWhy : Why → Type 0
IsWhy (Status status) = IsTrue (in_range status)
IsWhy (WrongStatus status) = IsTrue (in_range status)
IsWhy (Cause cause) = IsTrue (in_range cause)
IsWhy why = Unit {0}

abbrev pub IsEnded : Ended → Type 0
IsEnded Never = Unit {0}
IsEnded Accepted = Unit {0}
IsEnded (Failed step why) = (1 ≤ step) × (step ≤ 8) × IsWhy why

-- ---- the whole

pub record IsReached (state : CentreState) : Type 0 where
  pub settings : AreSettings state.settings
  pub next : state.next < 2 ^ 32
  pub phase : IsPhaseOf state.settings state.next state.phase
  pub ledger : IsLedgerOf state.next state.phase state.ledger
  pub last : IsEnded state.last
