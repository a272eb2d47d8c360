use Rattle.std.proofs.Common.{sym, subst}
use Rattle.dms_centre_jobs.specs.Requests.{IsWork}
use Rattle.dms_centre_jobs.proofs.JobLaws.{is_job}
use Rattle.dms_centre_jobs.proofs.job.Job.begin.Goals as goal

pub returns-clause-work : goal.returns-clause-work
returns-clause-work c = subst IsWork (sym c.begin.ensures) (is_job _ c.has_ranges.ensures c.requires)
