use Rattle.std.proofs.Common.{◌≡◌, ◌≤◌, length}
use Rattle.dms_face.specs.Runs.{run_after}
use Rattle.dms_face.proofs.totals.run_after.Given as goal

abbrev pub invariant-octets : goal.invariant-octets
invariant-octets l =
    (run_after l.font l.limit l.rest l.taken ≡ run_after l.font l.limit l.text l.fn.size) × (length l.rest ≤ length l.text) × (l.taken ≤ 256)

abbrev pub decreases-octets : goal.decreases-octets
decreases-octets l = length l.rest
