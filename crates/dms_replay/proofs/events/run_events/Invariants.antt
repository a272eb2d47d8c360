use Rattle.std.proofs.Common.{length}
use Rattle.dms_text.specs.Lines.{lines_left}
use Rattle.dms_world.specs.CodeView.{seen}
use Rattle.dms_replay.proofs.EventsRun.{AreRunTo}
use Rattle.dms_replay.proofs.events.run_events.Given as goal

abbrev pub invariant-loop-line : goal.invariant-loop-line
invariant-loop-line l =
    AreRunTo l.order (lines_left l.fn.lines) (lines_left l.left) (seen l.initial.world) (seen l.world) l.count

abbrev pub decreases-loop-line : goal.decreases-loop-line
decreases-loop-line l = length (lines_left l.left)
