use Rattle.std.proofs.Common.{◌∙◌}
use Rattle.dms_wire_ber.specs.NameReading.{numbers_of}
use Rattle.dms_mib.proofs.name.NumberedName.oid.Goals as goal

pub returns : goal.returns
returns c =
    let octets = c.self.inside.content.items in
    c.known.ensures (numbers_of octets) (rw c.as_slice.ensures.value c.self.invariant) ∙ c.self.view_is
