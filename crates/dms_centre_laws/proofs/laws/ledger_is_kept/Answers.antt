use Rattle.dms_centre_laws.proofs.LedgerLaws.{ledger_moves}
use Rattle.dms_centre_laws.proofs.laws.ledger_is_kept.Goals as goal

pub returns : goal.returns
returns c = ledger_moves
