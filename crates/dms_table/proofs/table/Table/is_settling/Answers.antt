use Rattle.std.proofs.Common.{sym, subst, ◌∙◌}
use Rattle.dms_table.specs.Rows.{TableModel}
use Rattle.dms_table.specs.PlaceView.{IsPlaced}
use Rattle.dms_table.proofs.Places.{placed_settling}
use Rattle.dms_table.proofs.table.Table.is_settling.Goals as goal

pub returns : goal.returns
returns c =
    c.is_some.ensures
    ∙ sym (placed_settling c.self.inside.validating c.args.self.now
    (subst (λ (table : TableModel). IsPlaced c.self.inside.validating table.changeable table.volatile) c.self.view_is c.self.invariant.placed))
