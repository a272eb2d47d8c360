use Rattle.std.proofs.Common.{subst, take}
use Rattle.dms_wire_ber.specs.ObjectIdentifier.{IsName}
use Rattle.dms_mib.specs.Names.{name_of}
use Rattle.dms_mib.specs.declared.instance.Instance.{Instance}
use Rattle.dms_mib.proofs.name.Name.oid.Goals as goal

pub returns : goal.returns
returns c =
    c.known.ensures (name_of c.args.self.now)
    (subst (λ (i : Instance). IsName (name_of i) (take c.self.inside.length c.self.inside.octets)) c.self.view_is c.self.invariant.1.is)
