use Rattle.std.proofs.Common.{sym, ◌∙◌, arith}
use Rattle.dms_mib.specs.Names.{column_number}
use Rattle.dms_mib_instances.proofs.Cells.{cell_next, past_rows}
use Rattle.dms_mib_instances.proofs.counts.Counts.after_cell.Goals as goal

pub returns-in-Some : goal.returns-in-Some
returns-in-Some c = λ table has.
    cell_next table c.args.self.now has c.are_octets.ensures
    c.args.column c.args.memory c.args.number (omega arith) c.in-Some.row c.in-Some.ensures.some

pub returns-in-None : goal.returns-in-None
returns-in-None c = λ table has.
    c.after_column.ensures table has
    ∙ sym (past_rows table c.args.self.now has
    c.are_octets.ensures
    (column_number c.args.column) c.args.memory c.args.number (omega arith) c.in-None.ensures.none)
