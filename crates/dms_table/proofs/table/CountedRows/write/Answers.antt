use Rattle.std.proofs.Common.{◌≡◌, List, Some, None, slice_set, subst, arith}
use Rattle.std.specs.Prelude.{OnOk, OnErr}
use Rattle.dms_table.specs.Rows.{RowModel, changed_in, written_row}
use Rattle.dms_table.specs.RowsView.{field_of}
use Rattle.dms_table.proofs.CountsOfRows.{changed_if, refused_if}
use Rattle.dms_table.proofs.table.CountedRows.write.Goals as goal

pub returns-clause-ok : goal.returns-clause-ok
returns-clause-ok c =
    let all : List RowModel = c.self.inside.rows.items in
    subst (λ (rows : List RowModel). OnOk c.write.result (changed_in rows c.args.number (written_row (field_of c.args.field)) ≡ Some (slice_set all c.in-Some.index c.write.new.self)))
    c.self.view_is
    (changed_if c.write.result all c.args.number c.in-Some.index c.index_mut-row.result.now c.write.new.self (written_row (field_of c.args.field))
    c.in-Some.ensures.some.0 (omega (arith, c.in-Some.ensures.some.1)) c.index_mut-row.ensures.value c.write.ensures.ok)

pub returns-clause-refused : goal.returns-clause-refused
returns-clause-refused c =
    let all : List RowModel = c.self.inside.rows.items in
    subst (λ (rows : List RowModel). OnErr c.write.result (changed_in rows c.args.number (written_row (field_of c.args.field)) ≡ None)) c.self.view_is
    (refused_if c.write.result all c.args.number c.in-Some.index c.index_mut-row.result.now (written_row (field_of c.args.field))
    c.in-Some.ensures.some.0 (omega (arith, c.in-Some.ensures.some.1)) c.index_mut-row.ensures.value c.write.ensures.refused)
