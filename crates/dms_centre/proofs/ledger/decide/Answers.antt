use Rattle.std.proofs.Common.{◌∙◌, sym}
use Rattle.dms_centre.proofs.Entries.{decided_found, decided_nowhere}
use Rattle.dms_centre.proofs.ledger.decide.Goals as goal

pub returns-in-Some-clause-entries : goal.returns-in-Some-clause-entries
returns-in-Some-clause-entries c =
    decided_found c.args.number c.args.outcome c.args.ledger.now.entries c.in-Some.index _ c.get_index_of.ensures.unique
    (sym c.get_index_of.ensures.index ∙ c.in-Some.is) c.index_mut.ensures.value

pub returns-in_default-clause-entries : goal.returns-in_default-clause-entries
returns-in_default-clause-entries c =
    decided_nowhere c.args.number c.args.outcome c.args.ledger.now.entries (sym c.get_index_of.ensures.index ∙ c.in_default.is)
