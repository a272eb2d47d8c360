use Rattle.std.proofs.Common.{◌-◌, ◌≤◌, length, take}
use Rattle.dms_text_exact.specs.Fronts.{IsFree}
use Rattle.dms_text_exact.proofs.fronts.passed.Given as goal

-- what is passed lacks it
abbrev pub invariant-runs : goal.invariant-runs
invariant-runs l = (l.place ≤ length l.text) × IsFree l.end (take l.place l.text)

abbrev pub decreases-runs : goal.decreases-runs
decreases-runs l = length l.text - l.place
