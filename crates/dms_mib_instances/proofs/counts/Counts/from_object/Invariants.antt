use Rattle.std.proofs.Common.{◌+◌, ◌-◌, ◌*◌, ◌≡◌, ◌∷◌, []}
use Rattle.dms_table.specs.Rows.{TableModel}
use Rattle.dms_mib.specs.Names.{below_dms}
use Rattle.dms_mib_instances.specs.Objects.{next_instance}
use Rattle.dms_mib_instances.specs.Places.{HasCounts}
use Rattle.dms_mib_instances.proofs.counts.Counts.from_object.Given as goal

abbrev pub invariant-loop-group : goal.invariant-loop-group
invariant-loop-group l =
    (table : TableModel) → HasCounts table l.self
    → next_instance table (below_dms (l.group ∷ l.number ∷ [])) ≡ next_instance table (below_dms (l.fn.group ∷ l.fn.number ∷ []))

abbrev pub decreases-loop-group : goal.decreases-loop-group
decreases-loop-group l = (7 - l.group) * 256 + (255 - l.number)
