use Rattle.dms_centre_laws.proofs.LedgerLaws.{ledger_is_sent, codes_put_up}
use Rattle.dms_centre_laws.proofs.laws.entries_were_sent.Goals as goal

pub returns-clause-sent : goal.returns-clause-sent
returns-clause-sent c = ledger_is_sent

pub returns-clause-codes : goal.returns-clause-codes
returns-clause-codes c = codes_put_up
