-- What the outcomes, ends and faults of the central system print (this profile). An outcome prints its word of the
-- report.
use Rattle.std.specs.Prelude.{ℕ, List, ◌++◌, codes, decimal}
use Rattle.std.specs.Fmt.{signed_decimal}
use Rattle.dms_centre.specs.declared.outcome.Outcome.{Outcome}
use Rattle.dms_centre.specs.declared.outcome.Outcome.TheVariants as outcomes
use Rattle.dms_centre.specs.declared.ledger.Entry.{Entry}
use Rattle.dms_centre.specs.declared.ended.Ended.{Ended}
use Rattle.dms_centre.specs.declared.ended.Ended.TheVariants as endings
use Rattle.dms_centre.specs.declared.ended.Why.{Why}
use Rattle.dms_centre.specs.declared.ended.Why.TheVariants as reasons
use Rattle.dms_centre.specs.declared.fault.CommandFault.{CommandFault}
use Rattle.dms_centre.specs.declared.fault.CommandFault.TheVariants as faults
use Rattle.dms_centre.specs.declared.settings.CentreFault.{CentreFault}
use Rattle.dms_centre.specs.declared.settings.CentreFault.TheVariants as centre_faults

abbrev pub outcome_text : Outcome → List ℕ
outcome_text outcomes.Waiting = codes "waiting"
outcome_text outcomes.Accepted = codes "accepted"
outcome_text (outcomes.Refused status) = codes "refused " ++ signed_decimal status
outcome_text outcomes.NoReply = codes "noreply"
outcome_text outcomes.Unknown = codes "unknown"

-- an entry of the ledger: the message that its code names, and its outcome
abbrev pub entry_text : Entry → List ℕ
entry_text entry =
    codes "memory " ++ (decimal entry.code.id.memory ++ (codes " number " ++ (decimal entry.code.id.number
    ++ (codes " checksum " ++ (decimal entry.code.id.crc ++ (codes ": " ++ outcome_text entry.outcome))))))

abbrev pub why_text : Why → List ℕ
why_text (reasons.Status status) = codes "error-status " ++ signed_decimal status
why_text (reasons.WrongStatus status) = codes "the row has status " ++ signed_decimal status
why_text reasons.StillValidating = codes "the row is still being validated"
why_text reasons.OtherChecksum = codes "the row has another checksum"
why_text reasons.NoReply = codes "no reply"
why_text reasons.NumbersUsedUp = codes "no request number is left"
why_text reasons.OddReply = codes "the reply does not answer what was asked"
why_text (reasons.Cause cause) = codes "the sign refused the activation for cause " ++ signed_decimal cause
why_text reasons.Restarted = codes "the central system was restarted"

abbrev pub ended_text : Ended → List ℕ
ended_text endings.Never = codes "no job has ended"
ended_text endings.Accepted = codes "accepted"
ended_text (endings.Failed step why) = codes "failed at step " ++ (decimal step ++ (codes ": " ++ why_text why))

abbrev pub command_fault_text : CommandFault → List ℕ
command_fault_text faults.Busy = codes "a job is not done yet"
command_fault_text faults.NumbersUsedUp = codes "no request number is left"
command_fault_text faults.BadCommand = codes "a value is out of its range"
command_fault_text faults.Memory = codes "out of memory"

abbrev pub centre_fault_text : CentreFault → List ℕ
centre_fault_text centre_faults.Community = codes "a community has 1 to 32 octets"

abbrev pub no_memory_text : List ℕ
no_memory_text = codes "out of memory"
