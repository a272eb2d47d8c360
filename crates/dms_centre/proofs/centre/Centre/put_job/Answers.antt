use Rattle.std.proofs.Common.{◌∙◌, sym}
use Rattle.dms_centre.proofs.Restored.{never_memory, err_is}
use Rattle.dms_centre.proofs.centre.Centre.put_job.Goals as goal

pub returns-in-Some-clause-memory : goal.returns-in-Some-clause-memory
returns-in-Some-clause-memory c =
    λ e. absurd (never_memory c.args.self.now.state c.args.saved.now c.in-Some.fault (sym c.job_fault.ensures ∙ c.in-Some.is) (err_is _ _ e))
