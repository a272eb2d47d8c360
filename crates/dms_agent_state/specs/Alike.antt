-- Objects that are published alike, and those to which the values of others are put back (this profile).
use Rattle.std.specs.Prelude.{◌≡◌, true, false, if◌then◌else◌, List, [], ◌∷◌, map, filter, ⊤}
use Rattle.hex.specs.Hex.{IsBytes}
use Rattle.dms_wire_ber.specs.Integer.{in_range}
use Rattle.dms_wire_ber.specs.ObjectIdentifier.{IsNameInLimits}
use Rattle.dms_wire.specs.Message.{ObjectValue, integer, octet_string, VarBind}
use Rattle.dms_device.specs.Object.{DeviceObject, admits}
use Rattle.dms_device.specs.Objects.{binding_of}

-- ---- what can be saved

-- what a manager's Set has: an INTEGER that a message can have, or octets
abbrev pub IsSettable : ObjectValue → Type 0
IsSettable (integer z) = in_range z ≡ true
IsSettable (octet_string octets) = IsBytes octets
IsSettable _ = ⊥

-- its name is one, and where a manager set its value, that is one that its access takes
pub record CanBeSaved (object : DeviceObject) : Type 0 where
  pub name : IsNameInLimits object.name
  pub settable : object.by_manager ≡ true → IsSettable object.value
  pub admitted : object.by_manager ≡ true → admits object.access object.value ≡ true

abbrev pub CanAllBeSaved : List DeviceObject → Type 0
CanAllBeSaved [] = ⊤
CanAllBeSaved (object ∷ more) = CanBeSaved object × CanAllBeSaved more

-- those whose value a manager set, with it, in the order of names
abbrev pub kept_bindings : List DeviceObject → List VarBind
kept_bindings objects = map binding_of (filter (λ object. object.by_manager) objects)

-- ---- what is put back

-- the same names with the same accesses, in the same order, whatever their values
abbrev pub AreAlike : List DeviceObject → List DeviceObject → Type 0
AreAlike [] [] = ⊤
AreAlike (x ∷ xs) (y ∷ ys) = (x.name ≡ y.name) × (x.access ≡ y.access) × AreAlike xs ys
AreAlike _ _ = ⊥

-- the second object, with the value of the first where a manager set that
abbrev pub taken_over : DeviceObject → DeviceObject → DeviceObject
taken_over x y = if x.by_manager then record y { value = x.value; is_set = true; by_manager = true } else y

abbrev pub all_taken_over : List DeviceObject → List DeviceObject → List DeviceObject
all_taken_over (x ∷ xs) (y ∷ ys) = taken_over x y ∷ all_taken_over xs ys
all_taken_over _ ys = ys

-- no value is a manager's, as where all is published anew
abbrev pub AreFirmwares : List DeviceObject → Type 0
AreFirmwares [] = ⊤
AreFirmwares (y ∷ ys) = (y.by_manager ≡ false) × AreFirmwares ys
