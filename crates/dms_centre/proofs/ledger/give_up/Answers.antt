use Rattle.std.proofs.Common.{arith}
use Rattle.dms_centre.proofs.Entries.{given_up_last}
use Rattle.dms_centre.proofs.ledger.give_up.Goals as goal

pub returns-then-entries-gt0-clause-entries : goal.returns-then-entries-gt0-clause-entries
returns-then-entries-gt0-clause-entries c =
    given_up_last c.args.outcome c.args.ledger.now.entries _ _ _ c.requires.last (omega arith) c.index_mut.ensures.value c.give_up.ensures
