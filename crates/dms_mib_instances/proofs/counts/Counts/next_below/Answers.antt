use Rattle.std.proofs.Common.{◌∙◌}
use Rattle.dms_mib_instances.proofs.Stops.{at_dms}
use Rattle.dms_mib_instances.proofs.counts.Counts.next_below.Goals as goal

pub returns-in-None : goal.returns-in-None
returns-in-None c = λ numbers e table has.
    c.first.ensures table has ∙ at_dms table c.args.self.now has numbers (e ∙ c.in-None.ensures.none)
