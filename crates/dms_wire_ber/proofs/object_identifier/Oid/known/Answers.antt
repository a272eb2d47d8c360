use Rattle.dms_wire_ber.proofs.Names.{name_only}
use Rattle.dms_wire_ber.proofs.object_identifier.Oid.known.Goals as goal

pub invariant_of-result : goal.invariant_of-result
invariant_of-result c = (name_only c.requires.0 c.args.content.now c.requires.1).0

pub returns : goal.returns
returns c = λ numbers name. (name_only numbers c.args.content.now name).1
