-- An operator's command (this profile): why it is refused, and what it makes of the state.
use Rattle.std.specs.Prelude.{not, Option, Some, None, nat_lt, if◌then◌else◌}
use Rattle.dms_centre_jobs.specs.Job.{Job}
use Rattle.dms_centre_jobs.specs.Commands.{CommandModel, is_good, job_of}
use Rattle.dms_centre_jobs.specs.Steps.{last_number}
use Rattle.dms_centre.specs.declared.fault.CommandFault.{CommandFault}
use Rattle.dms_centre.specs.declared.fault.CommandFault.TheVariants as faults
use Rattle.dms_centre.specs.State.{CentreState, is_busy}
use Rattle.dms_centre.specs.Sending.{Move, rests, sends}

-- the first reason to refuse it
abbrev pub refusal_of : CentreState → CommandModel → Option CommandFault
refusal_of state command =
    if is_busy state.phase then Some faults.Busy
    else if nat_lt last_number state.next then Some faults.NumbersUsedUp
    else if not (is_good command) then Some faults.BadCommand
    else None

abbrev pub begins : CentreState → Job → Option CommandFault → Move
begins state job None = sends state job
begins state job (Some fault) = rests state

-- A command that is not taken changes nothing and sends nothing.
unfoldable pub commanded : CentreState → CommandModel → Move
commanded state command = begins state (job_of command) (refusal_of state command)
