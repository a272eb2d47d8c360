use Rattle.std.proofs.Common.{◌≡◌, ap, sym, subst, ◌∙◌, arith}
use Rattle.dms_table.specs.SavedRows.{AreEmptyWhereUnused}
use Rattle.dms_table.proofs.EmptyRows.{interrupted_empty, released_empty}
use Rattle.dms_table.proofs.OneRow.{count, none_interrupted, none_released}
use Rattle.dms_table.proofs.table.Table.after_power.Goals as goal

pub invariant_of-self : goal.invariant_of-self
invariant_of-self c =
    let no_changeable : count c.interrupt.new.self ≡ 0 = ap count c.interrupt.ensures ∙ none_interrupted c.self.inside.writable.changeable in
    let no_volatile : count c.release.new.self ≡ 0 = ap count c.release.ensures ∙ none_released c.self.inside.writable.volatile in
    record {
      placed = omega (arith, no_changeable, no_volatile);
      changeable_empty = subst AreEmptyWhereUnused (sym c.interrupt.ensures) (interrupted_empty c.self.inside.writable.changeable c.self.invariant.changeable_empty);
      volatile_empty = subst AreEmptyWhereUnused (sym c.release.ensures) (released_empty c.self.inside.writable.volatile);
    }
