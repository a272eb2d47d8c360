use Rattle.dms_centre_restored.proofs.TakenUp.{goes_on_job}
use Rattle.dms_centre_restored.proofs.ledger_lines.put_job.Goals as goal

pub returns-in-Ok-clause-goes : goal.returns-in-Ok-clause-goes
returns-in-Ok-clause-goes c = goes_on_job _ _ c.args.job.now c.requires c.has_ranges.ensures c.in-Ok.ensures.faultless c.in-Ok.ensures.ok
