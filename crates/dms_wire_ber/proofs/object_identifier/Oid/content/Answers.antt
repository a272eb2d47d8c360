use Rattle.std.proofs.Common.{◌∙◌, ap}
use Rattle.dms_wire_ber.specs.ObjectIdentifier.{name_octets}
use Rattle.dms_wire_ber.proofs.Unique.{content_is}
use Rattle.dms_wire_ber.proofs.object_identifier.Oid.content.Goals as goal

pub returns : goal.returns
returns c = content_is c.self.inside.content.now c.self.invariant ∙ ap name_octets c.self.view_is
