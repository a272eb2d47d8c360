use Rattle.dms_centre_restored.proofs.TakenUp.{goes_on_last}
use Rattle.dms_centre_restored.proofs.ledger_lines.put_last.Goals as goal

pub returns-in-Ok-clause-goes : goal.returns-in-Ok-clause-goes
returns-in-Ok-clause-goes c = goes_on_last _ _ c.args.ended c.requires c.in-Ok.ensures.faultless c.in-Ok.ensures.ok
