use Rattle.std.proofs.Common.{◌≡◌, take}
use Rattle.dms_sign_access.specs.MetNames.{is_among}
use Rattle.dms_sign_access.proofs.met_names.is_among.Given as goal

abbrev pub invariant-loop-left : goal.invariant-loop-left
invariant-loop-left l = is_among l.name (take l.left l.rest) ≡ is_among l.name (take l.count l.initial.rest)

abbrev pub decreases-loop-left : goal.decreases-loop-left
decreases-loop-left l = l.left
