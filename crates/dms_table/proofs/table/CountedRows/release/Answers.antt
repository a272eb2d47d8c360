use Rattle.std.proofs.Common.{◌≡◌, ◌++◌, length, take, drop, ap, subst, sym, ◌∙◌, arith}
use Rattle.std.specs.Prelude.{List}
use Rattle.dms_table.specs.Rows.{RowModel}
use Rattle.dms_table.specs.CountsView.{AreCounted}
use Rattle.dms_table.proofs.OneRow.{refilled}
use Rattle.dms_table.proofs.CountsOfRows.{counted_released}
use Rattle.dms_table.proofs.table.CountedRows.release.Goals as goal

pub invariant_of-self : goal.invariant_of-self
invariant_of-self c =
    let whole : take c.self.inside.rows.len (c.release_all.new.rows ++ drop (length c.release_all.new.rows) c.self.inside.rows.items) ≡ c.release_all.new.rows = refilled _ _ _ (omega arith) in
    subst (λ (rows : List RowModel). AreCounted rows 0) (sym (whole ∙ c.release_all.ensures))
    (counted_released c.as_mut_slice.result.now (omega (arith, c.self.invariant.few, ap length c.as_mut_slice.ensures.value)))
