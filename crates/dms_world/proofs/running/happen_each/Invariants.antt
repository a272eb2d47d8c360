use Rattle.std.proofs.Common.{◌≡◌}
use Rattle.dms_world.specs.CodeView.{events_model, seen}
use Rattle.dms_world.specs.World.{world_at}
use Rattle.dms_world.proofs.Runs.{AreEventsUpTo}
use Rattle.dms_world.proofs.running.happen_each.Given as goal

abbrev pub invariant-loop-done : goal.invariant-loop-done
invariant-loop-done l = record {
  world : seen l.world ≡ world_at (seen l.initial.world) (events_model l.events) l.done;
  ranges : AreEventsUpTo (events_model l.events) l.done;
}
