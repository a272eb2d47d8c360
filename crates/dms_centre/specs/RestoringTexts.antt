-- Why a central system does not take up a part of a saved state, as it is printed (this profile).
use Rattle.std.specs.Prelude.{ℕ, List, codes}
use Rattle.dms_centre.specs.declared.restoring.EntryFault.{EntryFault}
use Rattle.dms_centre.specs.declared.restoring.EntryFault.TheVariants as entries
use Rattle.dms_centre.specs.declared.restoring.JobFault.{JobFault}
use Rattle.dms_centre.specs.declared.restoring.JobFault.TheVariants as jobs
use Rattle.dms_centre.specs.declared.restoring.EndFault.{EndFault}
use Rattle.dms_centre.specs.declared.restoring.EndFault.TheVariants as ends

abbrev pub entry_fault_text : EntryFault → List ℕ
entry_fault_text entries.Busy = codes "a job is on"
entry_fault_text entries.Number = codes "its number is not above the last one's and below the next"
entry_fault_text entries.Waiting = codes "it waits"
entry_fault_text entries.Status = codes "no reply has this error-status"
entry_fault_text entries.Memory = codes "out of memory"

abbrev pub job_fault_text : JobFault → List ℕ
job_fault_text jobs.Busy = codes "a job is on"
job_fault_text jobs.Number = codes "no request has the number before the next"
job_fault_text jobs.Sends = codes "a request is sent one to three times"
job_fault_text jobs.Ticks = codes "a request waits for at most two ticks"
job_fault_text jobs.Command = codes "a value of its command is out of its range"
job_fault_text jobs.Step = codes "it does not come to this step"
job_fault_text jobs.Polls = codes "at most nine polls are answered before it goes on"
job_fault_text jobs.Entry = codes "the ledger has an entry of its number"
job_fault_text jobs.Memory = codes "out of memory"

abbrev pub end_fault_text : EndFault → List ℕ
end_fault_text ends.Step = codes "a job has the steps 1 to 8"
end_fault_text ends.Number = codes "no reply reports this number"
