use Rattle.dms_centre_restored.proofs.TakenUp.{goes_on_entry}
use Rattle.dms_centre_restored.proofs.ledger_lines.enter.Goals as goal

pub returns-in-Ok-clause-goes : goal.returns-in-Ok-clause-goes
returns-in-Ok-clause-goes c =
    goes_on_entry _ _ (record { number = c.args.number; code = c.args.code; outcome = c.args.outcome }) c.requires c.has_ranges.ensures c.in-Ok.ensures.faultless c.in-Ok.ensures.ok
