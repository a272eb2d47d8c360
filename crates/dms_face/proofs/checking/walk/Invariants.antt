use Rattle.std.proofs.Common.{◌≤◌, length}
use Rattle.dms_multi.specs.Outcomes.{outcomes_from, outcomes_of}
use Rattle.dms_face.specs.Layout.{under, blank_layout}
use Rattle.dms_face.specs.OnePass.{walked}
use Rattle.dms_face.specs.Walked.{IsWalkedTo}
use Rattle.dms_face.proofs.checking.walk.Given as goal

abbrev pub invariant-loop-outcome : goal.invariant-loop-outcome
invariant-loop-outcome l =
    (length l.rest ≤ l.end) ×
    IsWalkedTo (under l.face l.defaults) l.end l.totals (outcomes_from l.end l.rest) (walked (under l.face l.defaults) l.end (blank_layout (under l.face l.defaults)) (outcomes_of l.text))

abbrev pub decreases-loop-outcome : goal.decreases-loop-outcome
decreases-loop-outcome l = length l.rest
