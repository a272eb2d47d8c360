use Rattle.dms_wire_ber.proofs.Named.{named, named_only, unnamed}
use Rattle.dms_wire_ber.proofs.object_identifier.Oid.of.Goals as goal

pub returns-clause-some : goal.returns-clause-some
returns-clause-some c = named c.name_of.result c.args.content.now c.name_of.ensures.some c.name_of.ensures.exact

pub returns-clause-only : goal.returns-clause-only
returns-clause-only c = named_only c.name_of.result c.args.content.now c.name_of.ensures.some c.name_of.ensures.exact

pub returns-clause-none : goal.returns-clause-none
returns-clause-none c = unnamed c.name_of.result c.args.content.now c.name_of.ensures.exact
