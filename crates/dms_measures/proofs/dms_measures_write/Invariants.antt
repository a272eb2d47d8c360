use Rattle.std.proofs.Common.{◌≤◌}
use Rattle.dms_measures.proofs.dms_measures_write.Given as goal

abbrev pub invariant-loop-bind : goal.invariant-loop-bind
invariant-loop-bind l = l.count ≤ 210
