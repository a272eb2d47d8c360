use Rattle.std.proofs.Common.{◌∙◌}
use Rattle.dms_centre_restored.proofs.LastCode.{last_code_is}
use Rattle.dms_centre_restored.proofs.ledger_lines.has_last_code.Goals as goal

pub returns-in-Some : goal.returns-in-Some
returns-in-Some c =
    c.are_same_codes.ensures ∙ last_code_is c.args.ledger.now.entries c.args.code c.in-Some.field-0-0.now c.in-Some.entry.now c.in-Some.ensures.entry
