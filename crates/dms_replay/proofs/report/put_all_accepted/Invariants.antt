use Rattle.std.proofs.Common.{◌≡◌, ◌++◌, take, flat_map}
use Rattle.dms_replay.specs.Report.{accepted_line}
use Rattle.dms_replay.proofs.report.put_all_accepted.Given as goal

abbrev pub invariant-loop-number : goal.invariant-loop-number
invariant-loop-number l = l.report.items ≡ l.initial.report.items ++ flat_map (accepted_line l.order) (take l.number-index l.accepted)
