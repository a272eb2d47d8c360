use Rattle.std.proofs.Common.{sym, ap, ◌∙◌, ◌+◌, [], arith}
use Rattle.dms_mib.specs.Names.{column_number}
use Rattle.dms_mib_instances.specs.NameReading.{column_at}
use Rattle.dms_mib_instances.proofs.Cells.{past_columns}
use Rattle.dms_mib_instances.proofs.counts.Counts.after_column.Goals as goal

pub returns-in-None : goal.returns-in-None
returns-in-None c = λ table has.
    c.from_object.ensures table has
    ∙ past_columns table c.args.self.now has (column_number c.args.column + 1) []
    (ap (λ k. column_at (k + 1)) (sym c.number.ensures) ∙ sym c.in-None.ensures.found) (omega arith)
