use Rattle.std.proofs.Common.{ap, ◌∙◌, []}
use Rattle.dms_wire_ber.specs.NameOrder.{is_before}
use Rattle.dms_mib.specs.Names.{below_dms}
use Rattle.dms_mib_instances.proofs.SameOctets.{dms_named}
use Rattle.dms_mib_instances.proofs.names.comes_before_dms.Goals as goal

pub known-requires : goal.known-requires
known-requires c = (below_dms [], dms_named)

pub returns : goal.returns
returns c = c.precedes.ensures ∙ ap (is_before c.args.name.now) (c.known.ensures (below_dms []) dms_named)
