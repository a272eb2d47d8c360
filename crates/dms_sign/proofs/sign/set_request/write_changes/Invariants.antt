use Rattle.std.proofs.Common.{◌≡◌, map, take}
use Rattle.dms_sign_access.specs.ChangeView.{write_by}
use Rattle.dms_sign.specs.SetRequest.{with_writes}
use Rattle.dms_sign.proofs.sign.set_request.write_changes.Given as goal

abbrev pub invariant-loop-change : goal.invariant-loop-change
invariant-loop-change l = l.table ≡ with_writes l.initial.table (map write_by (take l.change-index l.changes))
