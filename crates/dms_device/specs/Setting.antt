-- What a manager's Set does to the objects of a device, or why it does nothing (RFC 1157, 4.1.5, and this profile).
use Rattle.std.specs.Prelude.{ℕ, ◌+◌, ◌||◌, Bool, true, false, not, if◌then◌else◌}
use Rattle.std.specs.Prelude.{List, [], ◌∷◌, ◌++◌, map, length, Option, Some, None, is_some}
use Rattle.std.specs.List.{find, list_all}
use Rattle.std.specs.Option.{option_map_or}
use Rattle.dms_wire.specs.Message.{ObjectValue, VarBind}
use Rattle.dms_wire.specs.declared.error_status.ErrorStatus.{ErrorStatus}
use Rattle.dms_wire.specs.declared.error_status.ErrorStatus.TheVariants.{NoSuchName, BadValue, GenErr}
use Rattle.dms_sign_access.specs.MetNames.{is_among}
use Rattle.dms_device.specs.declared.access.ManagerAccess.{ManagerAccess}
use Rattle.dms_device.specs.declared.access.ManagerAccess.TheVariants.{ReadOnly, Number, Octets}
use Rattle.dms_device.specs.declared.fault.BindingFault.{BindingFault}
use Rattle.dms_device.specs.Object.{DeviceObject, admits}
use Rattle.dms_device.specs.Objects.{has_name, device_value}

-- ---- whose Set it is

-- the binding's name is that of an object of the device
abbrev pub is_named : List DeviceObject → VarBind → Bool
is_named objects binding = is_some (device_value objects binding.name)

-- so is each, and there is one
abbrev pub are_all_named : List DeviceObject → List VarBind → Bool
are_all_named objects [] = false
are_all_named objects (binding ∷ more) = list_all (is_named objects) (binding ∷ more)

-- ---- what keeps a Set from writing

abbrev pub is_written : ManagerAccess → Bool
is_written ReadOnly = false
is_written (Number least most) = true
is_written (Octets least most) = true

-- the name is that of an object that can be set
abbrev pub can_be_set : List DeviceObject → List ℕ → Bool
can_be_set objects name =
    option_map_or (λ (object : DeviceObject). is_written object.access) (find (has_name name) objects) false

-- the value is one that the binding's object takes
abbrev pub is_admitted : List DeviceObject → VarBind → Bool
is_admitted objects binding =
    option_map_or (λ (object : DeviceObject). admits object.access binding.value) (find (has_name binding.name) objects)
    false

-- The first thing that is wrong with a binding after others, in the order that a sign has: the name is not there or not
-- to be set, for the community that reads none is; the value; the name was given before.
abbrev pub refusal_at : List DeviceObject → Bool → List VarBind → VarBind → Option ErrorStatus
refusal_at objects may_write before binding =
    if not may_write || not (can_be_set objects binding.name) then Some NoSuchName
    else if not (is_admitted objects binding) then Some BadValue
    else if is_among binding.name before then Some GenErr
    else None

-- a binding's refusal with its index, or what is found of those after it
abbrev pub refused_or : ℕ → Option ErrorStatus → Option BindingFault → Option BindingFault
refused_or index (Some status) later = Some (record { index = index; status = status })
refused_or index None later = later

abbrev pub refusal_after : List DeviceObject → Bool → List VarBind → List VarBind → Option BindingFault
refusal_after objects may_write before [] = None
refusal_after objects may_write before (binding ∷ more) =
    refused_or (length before + 1) (refusal_at objects may_write before binding)
    (refusal_after objects may_write (before ++ binding ∷ []) more)

-- why a Set is refused: the first binding that is, its index from 1 and an error status; each is judged on the objects
-- before the Set
abbrev pub refusal_of : List DeviceObject → Bool → List VarBind → Option BindingFault
refusal_of objects may_write bindings = refusal_after objects may_write [] bindings

-- ---- what a Set writes

-- the object has the value, where it is one that may be written to it, and was set, by a manager
abbrev pub set_to : DeviceObject → ObjectValue → DeviceObject
set_to object value =
    if admits object.access value then record object { value = value; is_set = true; by_manager = true } else object

abbrev pub set_by_binding : VarBind → DeviceObject → DeviceObject
set_by_binding binding object = if has_name binding.name object then set_to object binding.value else object

abbrev pub written : List DeviceObject → List VarBind → List DeviceObject
written objects [] = objects
written objects (binding ∷ more) = written (map (set_by_binding binding) objects) more

-- all values at once, or none
abbrev pub written_unless : List DeviceObject → List VarBind → Option BindingFault → List DeviceObject
written_unless objects bindings None = written objects bindings
written_unless objects bindings (Some refusal) = objects
