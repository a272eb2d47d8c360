use Rattle.std.proofs.Common.{length}
use Rattle.dms_text.specs.Lines.{lines_left}
use Rattle.dms_replay.proofs.EventsRead.{ReadTo}
use Rattle.dms_replay.proofs.events.check_events.Given as goal

abbrev pub invariant-loop-line : goal.invariant-loop-line
invariant-loop-line l = ReadTo l.order (lines_left l.fn.lines) (lines_left l.left)

abbrev pub decreases-loop-line : goal.decreases-loop-line
decreases-loop-line l = length (lines_left l.left)
