-- What was judged before an object is made is all that might be wrong with it.
use Rattle.std.proofs.Common.{◌≡◌, ℕ, Bool, true, not, if◌then◌else◌, List, Option, Some, None, Result, IfErr, refl, ap, subst, ◌∙◌}
use Rattle.dms_wire_ber.specs.ObjectIdentifier.{IsNameInLimits, name_octets}
use Rattle.dms_wire_ber.specs.NameReading.{is_name, numbers_of}
use Rattle.dms_wire_ber.proofs.CanonicalNames.{name_spelled}
use Rattle.dms_wire_ber.proofs.Names.{name_only}
use Rattle.dms_wire.specs.Message.{ObjectValue}
use Rattle.dms_device.specs.declared.access.ManagerAccess.{ManagerAccess}
use Rattle.dms_device.specs.declared.fault.ObjectFault.{ObjectFault}
use Rattle.dms_device.specs.declared.fault.ObjectFault.TheVariants.{NoName, NoInteger, Unfit, OutOfMemory}
use Rattle.dms_device.specs.Object.{DeviceObject, fits, can_be_sent, object_fault, IsFirstFault}

none_of : (a b c : Bool) → a ≡ true → b ≡ true → c ≡ true
    → (if not a then Some NoName else if not b then Some NoInteger else if not c then Some Unfit else None) ≡ None
none_of a b c in_a in_b in_c = rw (in_a, in_b, in_c) refl

-- the octets of a name, with a value that a message can have and that the access takes
pub faultless : (numbers octets : List ℕ) (value : ObjectValue) (access : ManagerAccess) → IsNameInLimits numbers → octets ≡ name_octets numbers
    → can_be_sent value ≡ true → fits access value ≡ true → object_fault octets value access ≡ None
faultless numbers octets value access within is sent fit =
    none_of (is_name octets) (can_be_sent value) (fits access value)
    (ap is_name is ∙ (name_only numbers (name_octets numbers) (name_spelled numbers within)).0) sent fit

pub numbers_again : (numbers octets : List ℕ) → IsNameInLimits numbers → octets ≡ name_octets numbers → numbers_of octets ≡ numbers
numbers_again numbers octets within is = ap numbers_of is ∙ (name_only numbers (name_octets numbers) (name_spelled numbers within)).1

-- where nothing is wrong, the first thing that is wrong is memory
pub memory_alone : (made : Result DeviceObject ObjectFault) (fault : Option ObjectFault) → fault ≡ None → IfErr made (IsFirstFault fault)
    → IfErr made (λ fault. fault ≡ OutOfMemory)
memory_alone made fault none first = subst (λ fault. IfErr made (IsFirstFault fault)) none first
