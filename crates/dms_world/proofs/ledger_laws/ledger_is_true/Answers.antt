use Rattle.dms_world.proofs.WorldHonest.{ledger_is_true}
use Rattle.dms_world.proofs.ledger_laws.ledger_is_true.Goals as goal

pub returns : goal.returns
returns c = ledger_is_true
