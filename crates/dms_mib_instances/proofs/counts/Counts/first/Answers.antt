use Rattle.std.proofs.Common.{sym}
use Rattle.dms_mib_instances.proofs.Following.{height_first}
use Rattle.dms_mib_instances.proofs.counts.Counts.first.Goals as goal

pub returns : goal.returns
returns c = λ table has. sym (height_first table c.args.self.now has)
