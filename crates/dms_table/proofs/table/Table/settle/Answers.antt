use Rattle.std.proofs.Common.{◌≡◌, true, Some, ap, ◌∙◌, arith}
use Rattle.dms_face.specs.Fit.{IsGood}
use Rattle.dms_face.specs.Layout.{under}
use Rattle.dms_table.specs.Rows.{RowModel, TableModel}
use Rattle.dms_table.specs.Validation.{settled, verdict, verdict_of, passes}
use Rattle.dms_table.proofs.OneRow.{count, none_settled}
use Rattle.dms_table.proofs.GoodRows.{settled_rows_are_good}
use Rattle.dms_table.proofs.Places.{only_of_type, none_of_other, placed_at, placed_nowhere, none_left, placed_settling}
use Rattle.dms_table.proofs.Settlement.{settled_is, verdict_is, all_of_type, nothing_settled, no_verdict}
use Rattle.dms_table.proofs.EmptyRows.{both_settled}
use Rattle.dms_table.proofs.Writables.{are_lent, table_by, table_lent}
use Rattle.dms_table.proofs.table.Table.settle.Goals as goal

pub settle-verdict-requires-clause-only : goal.settle-verdict-requires-clause-only
settle-verdict-requires-clause-only c = grind (arith, placed_at, only_of_type)

pub invariant_of-self : goal.invariant_of-self
invariant_of-self c =
    let all = c.self.inside.writable in
    let placed = placed_at c.self.inside.validating c.in_ok-place.place all.changeable all.volatile c.in_ok-place.was c.self.invariant.placed in
    let lent = are_lent c.in_ok-place.place.memory all c.settle-verdict.new.self in
    let left : count c.settle-verdict.new.self ≡ 0 =
    ap count c.settle-verdict.ensures.rows ∙ none_settled c.self.inside.services (under c.args.face.now c.args.defaults.now) c.of_mut-rows.result.now in
    let empty = both_settled c.in_ok-place.place.memory c.self.inside.services (under c.args.face.now c.args.defaults.now) all.changeable all.volatile c.settle-verdict.new.self
    c.self.invariant.changeable_empty c.self.invariant.volatile_empty (rw c.of_mut-rows.ensures.value at c.settle-verdict.ensures.rows) in
    rw (lent.changeable, lent.volatile) (record {
      placed = none_left c.in_ok-place.place.memory all.changeable all.volatile c.settle-verdict.new.self left
          (none_of_other c.in_ok-place.place all.changeable all.volatile placed);
      changeable_empty = empty.changeable_empty;
      volatile_empty = empty.volatile_empty;
    })

pub returns : goal.returns
returns c =
    let all = c.self.inside.writable in
    let face = under c.args.face.now c.args.defaults.now in
    let table : TableModel = table_by c.self.inside.permanent.items all c.self.inside.services c.self.inside.order in
    let none =
    none_of_other c.in_ok-place.place all.changeable all.volatile
    (placed_at c.self.inside.validating c.in_ok-place.place all.changeable all.volatile c.in_ok-place.was c.self.invariant.placed) in
    let rows =
    table_lent c.self.inside.permanent.items all c.self.inside.services c.self.inside.order c.in_ok-place.place.memory c.settle-verdict.new.self
    (are_lent c.in_ok-place.place.memory all c.settle-verdict.new.self)
    ∙ settled_is face table c.in_ok-place.place.memory c.settle-verdict.new.self none (rw c.of_mut-rows.ensures.value at c.settle-verdict.ensures.rows)
    ∙ ap (settled face) c.self.view_is in
    let both = all_of_type c.in_ok-place.place.memory (λ (row : RowModel). passes (verdict_of c.self.inside.services face row) ≡ true → IsGood face row.text)
    all.changeable all.volatile none (rw c.of_mut-rows.ensures.value at c.settle-verdict.ensures.judged) in
    record {
      rows = rows;
      verdict = verdict_is face table c.in_ok-place.place.memory (Some c.settle-verdict.result) none (rw c.of_mut-rows.ensures.value at c.settle-verdict.ensures.verdict)
          ∙ ap (verdict face) c.self.view_is;
      good = settled_rows_are_good face c.args.self.now _ c.self.inside.permanent.items all.changeable all.volatile c.self.inside.services c.self.inside.order
          c.self.view_is both.0 both.1 rows;
    }

pub returns-in_err-place-clause-rows : goal.returns-in_err-place-clause-rows
returns-in_err-place-clause-rows c = grind (arith, placed_nowhere, nothing_settled, placed_settling)

pub returns-in_err-place-clause-verdict : goal.returns-in_err-place-clause-verdict
returns-in_err-place-clause-verdict c = grind (arith, placed_nowhere, no_verdict, placed_settling)
