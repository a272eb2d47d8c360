-- What the central system keeps up so that numbers are used once (this profile).
use Rattle.std.specs.Prelude.{◌≡◌, ℕ, ◌+◌, ◌≤◌, List, count_by, Some, slice_get, option_to_list, ◌++◌}
use Rattle.dms_centre_jobs.specs.Job.{SettingsModel}
use Rattle.dms_centre.specs.State.{Pending, Phase, Idle, Awaits, Due}
use Rattle.dms_centre.specs.Sending.{Move}
use Rattle.dms_centre_jobs.specs.Requests.{AreSettings, IsWork, IsRequest}
use Rattle.dms_centre.specs.History.{History}
use Rattle.dms_centre_laws.specs.RequestNumbers.{has_number, AreRequests, NumbersRise, EqualNumbersMeanEqualOctets}
use Rattle.dms_centre_laws.specs.RequestNumbers.{ThreeSendsAtMost, Sends}

-- The waiting request was sent as often as it says, three times at most, and has the newest number.
pub record IsOut (settings : SettingsModel) (next : ℕ) (pending : Pending) (sent : List (List ℕ)) : Type 0 where
  pub newest : pending.number + 1 ≡ next
  pub request : IsRequest settings pending.number pending.octets
  pub place : ℕ
  pub there : slice_get sent place ≡ Some pending.octets
  pub counted : count_by (has_number pending.number) sent ≤ pending.sends
  pub few : pending.sends ≤ 3

abbrev pub IsAwaited : SettingsModel → ℕ → Phase → List (List ℕ) → Type 0
IsAwaited settings next Idle sent = Unit {0}
IsAwaited settings next (Due job) sent = Unit {0}
IsAwaited settings next (Awaits job pending) sent = IsOut settings next pending sent

-- the values of the job
abbrev pub IsAtWork : Phase → Type 0
IsAtWork Idle = Unit {0}
IsAtWork (Due job) = IsWork job.work
IsAtWork (Awaits job pending) = IsWork job.work

pub record IsNumbered (settings : SettingsModel) (next : ℕ) (phase : Phase) (sent : List (List ℕ)) : Type 0 where
  pub settings_fine : AreSettings settings
  pub work : IsAtWork phase
  pub requests : AreRequests settings next sent
  pub rise : NumbersRise sent
  pub same : EqualNumbersMeanEqualOctets sent
  pub few : ThreeSendsAtMost sent
  pub out : IsAwaited settings next phase sent

abbrev pub HistoryIsNumbered : History → Type 0
HistoryIsNumbered history = IsNumbered history.state.settings history.state.next history.state.phase history.sent

-- a move that keeps it up, and sends what it may
pub record Keeps (settings : SettingsModel) (next : ℕ) (sent : List (List ℕ)) (move : Move) : Type 0 where
  pub numbered : IsNumbered move.state.settings move.state.next move.state.phase (sent ++ option_to_list move.sent)
  pub settings_stay : move.state.settings ≡ settings
  pub sends : Sends settings next sent move
