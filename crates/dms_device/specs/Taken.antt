-- The objects that a manager set since firmware was last told (this profile).
use Rattle.std.specs.Prelude.{Bool, false, List, [], ◌∷◌, map, if◌then◌else◌}
use Rattle.std.specs.List.{filter}
use Rattle.dms_wire.specs.Message.{VarBind}
use Rattle.dms_device.specs.Object.{DeviceObject}
use Rattle.dms_device.specs.Objects.{binding_of}

abbrev pub was_set : DeviceObject → Bool
was_set object = object.is_set

-- those objects with what was set, in the order of names
abbrev pub set_bindings : List DeviceObject → List VarBind
set_bindings objects = map binding_of (filter was_set objects)

-- a value of which firmware was told stays the manager's
abbrev pub told : DeviceObject → DeviceObject
told object = record object { is_set = false }

-- firmware was told of the first of them
abbrev pub told_first : List DeviceObject → List DeviceObject
told_first [] = []
told_first (object ∷ more) = if object.is_set then told object ∷ more else object ∷ told_first more
