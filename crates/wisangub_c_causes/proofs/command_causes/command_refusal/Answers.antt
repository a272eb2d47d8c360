use Rattle.std.proofs.Common.{sym, ap, ◌∙◌}
use Rattle.dms_text.specs.Reading.{word_at}
use Rattle.wisangub_c_causes.proofs.Commands.{whole_line}
use Rattle.wisangub_c_causes.proofs.command_causes.command_refusal.Goals as goal

pub returns : goal.returns
returns c =
    c.fault_of.ensures
    ∙ whole_line c.args.line.now _ c.in-Some-of.keyword (ap word_at (sym c.of.ensures) ∙ sym c.in-Some.ensures) (sym c.in-Some-of.ensures)
