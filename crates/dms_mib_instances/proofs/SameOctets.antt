-- What a name is by its octets: an instance's, or that of numbers below dms.
use Rattle.std.proofs.Common.{◌≡◌, ℕ, List, [], ◌∷◌, true, refl, sym, ap, subst, ◌∙◌, arith}
use Rattle.std.specs.Cmp.Lexicographic.{bytes_decides}
use Rattle.dms_wire_ber.specs.NameReading.{numbers_of, sub_identifiers_after}
use Rattle.dms_wire_ber.specs.ObjectIdentifier.{IsName, IsNameInLimits, name_octets, under_dms}
use Rattle.dms_wire_ber.proofs.CanonicalNames.{name_spelled}
use Rattle.dms_wire_ber.proofs.Names.{name_only}
use Rattle.dms_mib.specs.declared.instance.Instance.{Instance}
use Rattle.dms_mib.specs.Names.{name_of, below_dms}
use Rattle.dms_mib.specs.NameOctets.{IsNamed}
use Rattle.dms_mib_instances.specs.Objects.{has_name}
use Rattle.dms_mib_instances.specs.NameReading.{octets_below}

-- a name is what is read of its octets
read_back : (name : List ℕ) → IsNameInLimits name → name ≡ numbers_of (name_octets name)
read_back name within = sym (name_only name (name_octets name) (name_spelled name within)).1

pub named_by_octets : (name : List ℕ) (i : Instance) → IsNameInLimits name → IsNamed i (name_octets name) → has_name name i ≡ true
named_by_octets name i within named =
    (bytes_decides (name_of i) name).1 (sym (name_only (name_of i) (name_octets name) named.is).1 ∙ sym (read_back name within))

pub dms_octets : (numbers : List ℕ) → name_octets (below_dms numbers) ≡ under_dms (octets_below numbers)
unfolding name_octets
dms_octets numbers = refl

pub below : (name octets : List ℕ) → IsNameInLimits name → name_octets name ≡ under_dms octets
    → (numbers : List ℕ) × (name ≡ below_dms numbers) × (octets_below numbers ≡ octets)
below name octets within e =
    let numbers = sub_identifiers_after 0 octets in
    let is : name ≡ below_dms numbers = read_back name within ∙ ap numbers_of e in
    let same : under_dms (octets_below numbers) ≡ under_dms octets = sym (dms_octets numbers) ∙ ap name_octets (sym is) ∙ e in
    (numbers, is, cc)

-- the octets of dms are those of its name
pub dms_named : IsName (below_dms []) (43 ∷ 6 ∷ 1 ∷ 4 ∷ 1 ∷ 137 ∷ 54 ∷ 4 ∷ 2 ∷ 3 ∷ [])
dms_named =
    subst (IsName (below_dms [])) (dms_octets [])
    (name_spelled (below_dms []) (omega arith, λ low. omega arith, omega arith, (omega arith, (omega arith, (omega arith, (omega arith, (omega arith, (omega arith, (omega arith, (omega arith, tt)))))))), omega arith))
