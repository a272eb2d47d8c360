-- The objects of a device: the order of their names, what a name reads, and what comes after it (RFC 1157, 4.1.2 and
-- 4.1.3).
use Rattle.std.specs.Prelude.{ℕ, Bool, true, ◌&&◌, List, [], ◌∷◌, nat_eq, Option, option_map}
use Rattle.std.specs.List.{find, list_all}
use Rattle.std.specs.Cmp.Lexicographic.{pointwise}
use Rattle.dms_wire_ber.specs.NameOrder.{is_before}
use Rattle.dms_wire.specs.Message.{ObjectValue, VarBind}
use Rattle.dms_device.specs.Object.{DeviceObject}

abbrev pub has_name : List ℕ → DeviceObject → Bool
has_name name object = pointwise nat_eq object.name name

-- the object's name comes after this one
abbrev pub comes_after : List ℕ → DeviceObject → Bool
comes_after name object = is_before name object.name

-- each object's name comes before the names of all that follow
abbrev pub rises : List DeviceObject → Bool
rises [] = true
rises (object ∷ more) = list_all (comes_after object.name) more && rises more

-- what a name reads, where it is that of an object
abbrev pub device_value : List DeviceObject → List ℕ → Option ObjectValue
device_value objects name = option_map (λ (object : DeviceObject). object.value) (find (has_name name) objects)

abbrev pub binding_of : DeviceObject → VarBind
binding_of object = record { name = object.name; value = object.value }

-- the first object after a name, with what it reads
abbrev pub device_after : List DeviceObject → List ℕ → Option VarBind
device_after objects name = option_map binding_of (find (comes_after name) objects)
