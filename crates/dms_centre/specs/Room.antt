-- When the central system takes memory (this profile): for an entry of the ledger, where the ledger has no room for it.
use Rattle.std.specs.Prelude.{ℕ, Bool, false, ◌&&◌, nat_le, is_none}
use Rattle.dms_centre_jobs.specs.Job.{Job}
use Rattle.dms_centre.specs.State.{CentreState, Phase, Idle, Awaits, Due}
use Rattle.dms_centre_jobs.specs.Steps.{is_activating, last_number}
use Rattle.dms_centre_jobs.specs.Commands.{CommandModel, job_of}
use Rattle.dms_centre.specs.Commands.{refusal_of}

-- spare: how many more entries the ledger takes without memory
pub record CentreModel : Type 0 where
  pub state : CentreState
  pub spare : ℕ

-- sending the job's request makes an entry of the ledger
abbrev pub enters : CentreState → Job → Bool
enters state job = is_activating job.step && nat_le state.next last_number

abbrev pub enters_due : CentreState → Phase → Bool
enters_due state Idle = false
enters_due state (Awaits job pending) = false
enters_due state (Due job) = enters state job

-- a tick makes an entry of the ledger
abbrev pub enters_at_tick : CentreState → Bool
enters_at_tick state = enters_due state state.phase

-- a command makes an entry of the ledger: it is taken, and its job begins with an activation
abbrev pub enters_by : CentreState → CommandModel → Bool
enters_by state command = is_none (refusal_of state command) && is_activating (job_of command).step
