use Rattle.std.proofs.Common.{◌≡◌, length}
use Rattle.dms_text.specs.Lines.{lines_left}
use Rattle.signtool_acts.specs.Unseen.{unseen_at}
use Rattle.signtool_acts.proofs.unseen.unseen_at.Given as goal

abbrev pub invariant-loop-line : goal.invariant-loop-line
invariant-loop-line l = unseen_at l.number (lines_left l.rest) ≡ unseen_at l.initial.number (lines_left l.initial.rest)

abbrev pub decreases-loop-line : goal.decreases-loop-line
decreases-loop-line l = length (lines_left l.rest)
