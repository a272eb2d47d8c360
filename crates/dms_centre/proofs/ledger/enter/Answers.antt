use Rattle.std.proofs.Common.{◌∙◌, ap}
use Rattle.dms_centre.specs.CodeView.{ledger_model}
use Rattle.dms_centre.proofs.Entries.{inserted, on_ok}
use Rattle.dms_centre.proofs.ledger.enter.Goals as goal

pub returns : goal.returns
returns c =
    ap ledger_model (on_ok _ _ _ c.unwrap.ensures c.insert.ensures.entries)
    ∙ inserted c.args.ledger.now.entries c.args.number _ c.requires.below
