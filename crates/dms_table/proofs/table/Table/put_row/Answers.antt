use Rattle.std.proofs.Common.{◌≡◌, Bool, true, cond, length, Option, Some, sym, subst, ap, ◌∙◌, arith}
use Rattle.dms_codes.specs.Status.{is_validating}
use Rattle.dms_table.specs.declared.writable.RowPlace.{RowPlace}
use Rattle.dms_table.specs.Rows.{TableModel}
use Rattle.dms_table.specs.PlaceView.{of_type, IsPlaced}
use Rattle.dms_table.specs.SavedRows.{row_saved, put_over, may_put}
use Rattle.dms_table.proofs.EmptyRows.{put_empty, both_changed}
use Rattle.dms_table.proofs.PutRows.{put_used, put_place}
use Rattle.dms_table.proofs.Writables.{are_lent, table_by}
use Rattle.dms_table.proofs.table.Table.put_row.Goals as goal

pub invariant_of-self-2 : goal.invariant_of-self-2
invariant_of-self-2 c =
    let all = c.self.inside.writable in
    let kind = c.in-Some-of.memory in
    let put = row_saved c.args.row.now in
    let table : TableModel = table_by c.self.inside.permanent.items all c.self.inside.services c.self.inside.order in
    let lent = are_lent kind all c.put.new.self in
    let changed = rw c.of_mut.ensures.value at c.in_ok-index.ensures.ok in
    let used = put_used c.self.inside.services put (sym c.fault.ensures.first ∙ c.in_default.is) in
    let empty = both_changed kind all.changeable all.volatile c.put.new.self c.args.id.number (put_over put) (put_empty put used)
    c.self.invariant.changeable_empty c.self.invariant.volatile_empty changed in
    let validates : c.eq-is_validating.result ≡ is_validating put.status = grind arith in
    let may : may_put c.args.self.now put.status ≡ true = grind arith in
    let placed = put_place kind c.self.inside.validating put table c.put.new.self c.args.id.number c.in_ok-index.index c.self.invariant.placed
    (ap (λ (t : TableModel). may_put t put.status) c.self.view_is ∙ may) c.in_ok-index.ensures.index changed in
    rw (lent.changeable, lent.volatile) (record {
      placed = subst (λ (validating : Option RowPlace). IsPlaced validating (of_type kind c.put.new.self all.changeable) (of_type kind all.volatile c.put.new.self))
          (sym (c.note_validating.ensures ∙ ap (λ (is : Bool). cond is (Some (record { memory = kind; index = c.in_ok-index.index })) c.self.inside.validating) validates)) placed;
      changeable_empty = empty.changeable_empty;
      volatile_empty = empty.volatile_empty;
    })
