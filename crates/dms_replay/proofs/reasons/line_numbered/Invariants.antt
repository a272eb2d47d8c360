use Rattle.std.proofs.Common.{◌≡◌, length}
use Rattle.dms_text.specs.Lines.{lines_left}
use Rattle.dms_replay.specs.Reasons.{line_numbered}
use Rattle.dms_replay.proofs.reasons.line_numbered.Given as goal

abbrev pub invariant-loop-line : goal.invariant-loop-line
invariant-loop-line l = line_numbered l.number (lines_left l.lines) ≡ line_numbered l.number (lines_left l.fn.lines)

abbrev pub decreases-loop-line : goal.decreases-loop-line
decreases-loop-line l = length (lines_left l.lines)
