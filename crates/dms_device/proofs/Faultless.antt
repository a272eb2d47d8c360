-- What an object holds is what it was made with.
use Rattle.std.proofs.Common.{◌≡◌, ℕ, Bool, true, false, not, if◌then◌else◌, List, Some, None, refl}
use Rattle.std.proofs.lemmas.Bool.{both_ways}
use Rattle.dms_wire_ber.specs.ObjectIdentifier.{IsName, IsNameInLimits, name_octets}
use Rattle.dms_wire_ber.specs.NameReading.{is_name, numbers_of}
use Rattle.dms_wire_ber.proofs.CanonicalNames.{name_spelled}
use Rattle.dms_wire_ber.proofs.Names.{name_only, name_found}
use Rattle.dms_wire.specs.Message.{ObjectValue}
use Rattle.dms_device.specs.declared.access.ManagerAccess.{ManagerAccess}
use Rattle.dms_device.specs.declared.access.ManagerAccess.TheVariants as accesses
use Rattle.dms_device.specs.declared.fault.ObjectFault.TheVariants.{NoName, NoInteger, Unfit}
use Rattle.dms_device.specs.declared.held.HeldValue.{HeldValue}
use Rattle.dms_device.specs.declared.held.HeldValue.TheVariants as kinds
use Rattle.dms_device.specs.Object.{fits, can_be_sent, object_fault}
use Rattle.dms_device.specs.View.{held_value, room_of, HasRoom, IsHeldFor}

pub numbers_again : (numbers : List ℕ) → IsNameInLimits numbers → numbers_of (name_octets numbers) ≡ numbers
numbers_again numbers within = (name_only numbers (name_octets numbers) (name_spelled numbers within)).1

pub name_of_numbers : (numbers : List ℕ) → IsNameInLimits numbers → IsName (numbers_of (name_octets numbers)) (name_octets numbers)
name_of_numbers numbers within = name_found (name_octets numbers) (name_only numbers (name_octets numbers) (name_spelled numbers within)).0

-- what an object without a fault has
pub record IsFaultless (octets : List ℕ) (value : ObjectValue) (access : ManagerAccess) : Type 0 where
  pub name : IsName (numbers_of octets) octets
  pub fit : fits access value ≡ true

tests : (a b c : Bool)
    → (if not a then Some NoName else if not b then Some NoInteger else if not c then Some Unfit else None) ≡ None
    → (a ≡ true) × (c ≡ true)
tests true true true h = (refl, refl)
tests true true false h = cc
tests true false c h = cc
tests false b c h = cc

pub faultless : (octets : List ℕ) (value : ObjectValue) (access : ManagerAccess) → object_fault octets value access ≡ None
    → IsFaultless octets value access
faultless octets value access h =
    let parts = tests (is_name octets) (can_be_sent value) (fits access value) h in
    record { name = name_found octets parts.0; fit = parts.1 }

pub held_for : (access : ManagerAccess) (held : HeldValue) → fits access (held_value held) ≡ true → HasRoom (room_of access) held
    → IsHeldFor access held
held_for accesses.ReadOnly held h room = tt
held_for (accesses.Number least most) (kinds.Integer z) h room = tt
held_for (accesses.Octets least most) (kinds.Octets s) h room = room
held_for (accesses.Number least most) (kinds.Octets s) h room = absurd (both_ways false refl h)
held_for (accesses.Number least most) kinds.Null h room = absurd (both_ways false refl h)
held_for (accesses.Number least most) (kinds.Name n) h room = absurd (both_ways false refl h)
held_for (accesses.Number least most) (kinds.Address a) h room = absurd (both_ways false refl h)
held_for (accesses.Number least most) (kinds.Counter n) h room = absurd (both_ways false refl h)
held_for (accesses.Number least most) (kinds.Gauge n) h room = absurd (both_ways false refl h)
held_for (accesses.Number least most) (kinds.Ticks n) h room = absurd (both_ways false refl h)
held_for (accesses.Number least most) (kinds.Opaque s) h room = absurd (both_ways false refl h)
held_for (accesses.Octets least most) (kinds.Integer z) h room = absurd (both_ways false refl h)
held_for (accesses.Octets least most) kinds.Null h room = absurd (both_ways false refl h)
held_for (accesses.Octets least most) (kinds.Name n) h room = absurd (both_ways false refl h)
held_for (accesses.Octets least most) (kinds.Address a) h room = absurd (both_ways false refl h)
held_for (accesses.Octets least most) (kinds.Counter n) h room = absurd (both_ways false refl h)
held_for (accesses.Octets least most) (kinds.Gauge n) h room = absurd (both_ways false refl h)
held_for (accesses.Octets least most) (kinds.Ticks n) h room = absurd (both_ways false refl h)
held_for (accesses.Octets least most) (kinds.Opaque s) h room = absurd (both_ways false refl h)
