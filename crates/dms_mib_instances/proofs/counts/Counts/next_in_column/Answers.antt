use Rattle.std.proofs.Common.{◌∷◌, sym, ap, ◌∙◌}
use Rattle.dms_mib.specs.Names.{below_dms, column_number}
use Rattle.dms_mib_instances.specs.Objects.{next_instance}
use Rattle.dms_mib_instances.proofs.Beginnings.{ends}
use Rattle.dms_mib_instances.proofs.Cells.{column_itself, of_row}
use Rattle.dms_mib_instances.proofs.counts.Counts.next_in_column.Goals as goal

pub returns-in-None : goal.returns-in-None
returns-in-None c = λ numbers e table has.
    c.after_cell-in-None.ensures table has
    ∙ column_itself table c.args.self.now has (column_number c.args.column) 0
    ∙ ap (λ ns. next_instance table (below_dms (5 ∷ 8 ∷ 1 ∷ column_number c.args.column ∷ ns))) (sym (ends numbers (e ∙ c.in-None.ensures.none)))

pub returns-in-Some : goal.returns-in-Some
returns-in-Some c = λ numbers e table has.
    c.after_cell.ensures table has
    ∙ of_row table c.args.self.now has c.are_octets.ensures
    (column_number c.args.column) c.in-Some.memory c.row_number.result numbers c.in-Some.rest.now (e ∙ c.in-Some.ensures.some) c.row_number.ensures
