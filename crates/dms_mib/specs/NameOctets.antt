-- The content octets of the names of instances (X.690, 8.19).
use Rattle.std.specs.Prelude.{ℕ, List}
use Rattle.dms_wire_ber.specs.ObjectIdentifier.{IsName}
use Rattle.dms_mib.specs.declared.instance.Instance.{Instance}
use Rattle.dms_mib.specs.Names.{name_of}

-- the octets are the content of the instance's name
pub record IsNamed (i : Instance) (octets : List ℕ) : Type 0 where
  pub is : IsName (name_of i) octets
