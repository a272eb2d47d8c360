use Rattle.std.proofs.Common.{sym, ap, ◌∙◌}
use Rattle.dms_table.specs.Rows.{is_settling}
use Rattle.dms_table.proofs.Places.{placed_settling}
use Rattle.dms_sign.specs.State.{SignState}
use Rattle.dms_sign.proofs.sign.Sign.is_settling.Goals as goal

pub returns : goal.returns
returns c =
    c.is_some.ensures ∙ sym (placed_settling c.settling.result c.self.inside.table c.settling.ensures)
    ∙ ap (λ (s : SignState). is_settling s.table) c.self.view_is
