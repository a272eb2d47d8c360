use Rattle.std.proofs.Common.{◌+◌, ap, ◌∙◌}
use Rattle.dms_centre.proofs.Rising.{after_last}
use Rattle.dms_centre.proofs.ledger.number_after.Goals as goal

pub returns-in-Some : goal.returns-in-Some
returns-in-Some c =
    ap (λ n. n + 1) c.from.ensures ∙ after_last c.args.ledger.now.entries c.in-Some.number.now c.in-Some.field-0-1.now c.in-Some.ensures.entry
