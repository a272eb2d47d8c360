use Rattle.std.proofs.Common.{◌≡◌, ◌+◌, drop}
use Rattle.dms_sign_restored.specs.Restored.{with_rows}
use Rattle.dms_sign_restored.proofs.restoring.put_rows.Given as goal

-- the rows that are left, put to the sign of now, are all rows, put to the sign of before
abbrev pub invariant-loop-index : goal.invariant-loop-index
invariant-loop-index l = with_rows l.stored (l.first + l.index) (drop l.index l.rows) l.sign ≡ with_rows l.stored l.first l.rows l.initial.sign
