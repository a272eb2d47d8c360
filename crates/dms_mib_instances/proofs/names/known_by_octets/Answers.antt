use Rattle.dms_mib_instances.proofs.SameOctets.{named_by_octets}
use Rattle.dms_mib_instances.proofs.names.known_by_octets.Goals as goal

pub returns : goal.returns
returns c = named_by_octets c.args.name.now c.args.instance c.numbers.ensures.in_limits c.requires
