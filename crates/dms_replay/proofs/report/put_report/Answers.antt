use Rattle.std.proofs.Common.{rules, append_assoc}
use Rattle.dms_replay.proofs.report.put_report.Goals as goal

pub returns : goal.returns
returns c = search (rules, append_assoc)
