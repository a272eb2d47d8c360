use Rattle.dms_mib_instances.proofs.SameOctets.{below}
use Rattle.dms_mib_instances.proofs.names.known_below_dms.Goals as goal

pub returns : goal.returns
returns c = below c.args.name.now c.args.octets.now c.numbers.ensures.in_limits c.requires
