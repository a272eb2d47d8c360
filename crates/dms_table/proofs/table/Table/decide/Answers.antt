use Rattle.std.proofs.Common.{sym, ◌∙◌}
use Rattle.dms_table.proofs.Decisions.{refused_decision}
use Rattle.dms_table.proofs.table.Table.decide.Goals as goal

pub returns-in-Err : goal.returns-in-Err
returns-in-Err c =
    refused_decision _ c.args.face.now c.args.defaults.now c.args.self.now c.args.shown.now c.args.code.now c.in-Err.cause
    (sym c.in-Err.is ∙ c.judge.ensures)
