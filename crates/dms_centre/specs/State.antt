-- The state of the central system: its settings, its job, the request that waits for a reply, and the ledger of the
-- codes that it sent (this profile).
use Rattle.std.specs.Prelude.{ℕ, Bool, true, false, List, []}
use Rattle.dms_codes.specs.declared.codes.Activation.{Activation}
use Rattle.dms_centre.specs.declared.ended.Ended.{Ended}
use Rattle.dms_centre.specs.declared.ended.Ended.TheVariants.{Never}
use Rattle.dms_centre.specs.declared.outcome.Outcome.{Outcome}
use Rattle.dms_centre_jobs.specs.Job.{SettingsModel, Job}

-- A request that waits for its reply: its number and octets, how many times they were sent, and the ticks since the
-- last time.
pub record Pending : Type 0 where
  pub number : ℕ
  pub octets : List ℕ
  pub sends : ℕ
  pub age : ℕ

-- Nothing is to be done; a request of the job waits for its reply; or the next tick sends the job's request.
pub data Phase : Type 0 where
  Idle : Phase
  Awaits : Job → Pending → Phase
  Due : Job → Phase

-- a code that was sent, the number of its request, and what became of it
pub record Entry : Type 0 where
  pub number : ℕ
  pub code : Activation
  pub outcome : Outcome

-- next: the number that the next request takes; last: how the last job ended
pub record CentreState : Type 0 where
  pub settings : SettingsModel
  pub next : ℕ
  pub phase : Phase
  pub ledger : List Entry
  pub last : Ended

-- as it is made, with the number of its first request
abbrev pub start : SettingsModel → ℕ → CentreState
start settings first = record { settings = settings; next = first; phase = Idle; ledger = []; last = Never }

abbrev pub is_busy : Phase → Bool
is_busy Idle = false
is_busy (Awaits job pending) = true
is_busy (Due job) = true
