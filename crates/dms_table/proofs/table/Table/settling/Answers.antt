use Rattle.std.proofs.Common.{subst}
use Rattle.dms_table.specs.Rows.{TableModel}
use Rattle.dms_table.specs.PlaceView.{IsPlaced}
use Rattle.dms_table.proofs.table.Table.settling.Goals as goal

pub returns : goal.returns
returns c = subst (λ (table : TableModel). IsPlaced c.self.inside.validating table.changeable table.volatile) c.self.view_is c.self.invariant.placed
