use Rattle.std.proofs.Common.{arith}
use Rattle.dms_mib_instances.proofs.Rows.{first_behind, none_behind}
use Rattle.dms_mib_instances.proofs.counts.Counts.row_after.Goals as goal

pub returns-else-has_row-clause-some : goal.returns-else-has_row-clause-some
returns-else-has_row-clause-some c =
    first_behind c.args.self.now c.are_octets.ensures c.args.memory c.args.number (omega arith)
    (λ row is same. omega (arith, c.has_row.ensures.past c.if-has_row.false (omega arith) row is same)) c.row_past.result c.row_past.ensures.some

pub returns-else-has_row-clause-none : goal.returns-else-has_row-clause-none
returns-else-has_row-clause-none c =
    none_behind c.args.self.now c.are_octets.ensures c.args.memory c.args.number
    (λ row is same. omega (arith, c.has_row.ensures.past c.if-has_row.false (omega arith) row is same)) c.row_past.result c.row_past.ensures.none
