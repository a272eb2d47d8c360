use Rattle.std.proofs.Common.{◌≡◌, ◌++◌, length, take, drop, subst, sym, ◌∙◌, arith}
use Rattle.std.specs.Prelude.{List}
use Rattle.dms_table.specs.Rows.{RowModel}
use Rattle.dms_table.specs.CountsView.{AreCounted}
use Rattle.dms_table.proofs.OneRow.{refilled}
use Rattle.dms_table.proofs.CountsOfRows.{counted_interrupted}
use Rattle.dms_table.proofs.table.CountedRows.interrupt.Goals as goal

pub invariant_of-self : goal.invariant_of-self
invariant_of-self c =
    let whole : take c.self.inside.rows.len (c.interrupt_all.new.rows ++ drop (length c.interrupt_all.new.rows) c.self.inside.rows.items) ≡ c.interrupt_all.new.rows = refilled _ _ _ (omega arith) in
    subst (λ (rows : List RowModel). AreCounted rows c.self.inside.valid) (sym (whole ∙ c.interrupt_all.ensures))
    (counted_interrupted c.as_mut_slice.result.now c.self.inside.valid
    (subst (λ (rows : List RowModel). AreCounted rows c.self.inside.valid) (sym c.as_mut_slice.ensures.value) c.self.invariant))
