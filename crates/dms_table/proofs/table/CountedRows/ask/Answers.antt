use Rattle.std.proofs.Common.{◌≡◌, List, Some, slice_set, subst, arith}
use Rattle.dms_table.specs.Rows.{RowModel, changed_in, asked_row}
use Rattle.dms_table.proofs.CountsOfRows.{changed_to}
use Rattle.dms_table.proofs.table.CountedRows.ask.Goals as goal

pub returns-clause-ok : goal.returns-clause-ok
returns-clause-ok c =
    let all : List RowModel = c.self.inside.rows.items in
    subst (λ (rows : List RowModel). changed_in rows c.args.number (asked_row c.args.ask) ≡ Some (slice_set all c.in-Some.index c.ask.new.self)) c.self.view_is
    (changed_to all c.args.number c.in-Some.index c.index_mut-row.result.now c.ask.new.self (asked_row c.args.ask)
    c.in-Some.ensures.some.0 (omega (arith, c.in-Some.ensures.some.1)) c.index_mut-row.ensures.value c.in_ok-ask.ensures.ok)
