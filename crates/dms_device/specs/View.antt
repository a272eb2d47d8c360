-- What the code's values say; only proofs go through these (this profile).
use Rattle.std.specs.Prelude.{ℕ, zero, suc, ◌+◌, ◌*◌, ◌≤◌, List, get_or}
use Rattle.std.specs.Prelude.{Option, Some, None, Result, Ok, Err, ⊤, vec_capacity}
use Rattle.dms_wire.specs.Message.{ObjectValue, integer, octet_string, null, object_identifier}
use Rattle.dms_wire.specs.Message.{ip_address, counter, gauge, time_ticks, opaque}
use Rattle.dms_wire.specs.declared.error_status.ErrorStatus.{ErrorStatus}
use Rattle.dms_device.specs.declared.access.ManagerAccess.{ManagerAccess}
use Rattle.dms_device.specs.declared.access.ManagerAccess.TheVariants as accesses
use Rattle.dms_device.specs.declared.fault.BindingFault.{BindingFault}
use Rattle.dms_device.specs.declared.held.HeldValue.{HeldValue}
use Rattle.dms_device.specs.declared.held.HeldValue.TheVariants as kinds

abbrev pub held_value : HeldValue → ObjectValue
held_value (kinds.Integer z) = integer z
held_value (kinds.Octets s) = octet_string s.items
held_value kinds.Null = null
held_value (kinds.Name n) = object_identifier n
held_value (kinds.Address a) = ip_address a
held_value (kinds.Counter n) = counter n
held_value (kinds.Gauge n) = gauge n
held_value (kinds.Ticks n) = time_ticks n
held_value (kinds.Opaque s) = opaque s.items

-- how many octets a manager may write
abbrev pub room_of : ManagerAccess → ℕ
room_of accesses.ReadOnly = 0
room_of (accesses.Number least most) = 0
room_of (accesses.Octets least most) = most

-- octets have room for so many
abbrev pub HasRoom : ℕ → HeldValue → Type 0
HasRoom room (kinds.Octets s) = room ≤ vec_capacity s
HasRoom room _ = ⊤

-- a value that may be written has its type, and room for the most octets
abbrev pub IsHeldFor : ManagerAccess → HeldValue → Type 0
IsHeldFor accesses.ReadOnly value = ⊤
IsHeldFor (accesses.Number least most) (kinds.Integer z) = ⊤
IsHeldFor (accesses.Octets least most) (kinds.Octets s) = most ≤ vec_capacity s
IsHeldFor _ _ = ⊥

-- what a Set says: why it is refused, where it is
abbrev pub refusal_in : Result (Unit {0}) BindingFault → Option BindingFault
refusal_in (Ok _) = None
refusal_in (Err refusal) = Some refusal

-- what is wrong with a binding, where something is
abbrev pub status_in : Result (Unit {0}) ErrorStatus → Option ErrorStatus
status_in (Ok _) = None
status_in (Err status) = Some status

-- the number that so many octets are, from a place on, the first of them its highest, with a number before them
abbrev pub number_of_octets : ℕ → ℕ → List ℕ → ℕ → ℕ → ℕ
number_of_octets zero number octets at k = number
number_of_octets (suc n) number octets at k =
    number_of_octets n (number * 256 + get_or octets (at + k) 0) octets at (suc k)

abbrev pub eight_octets : List ℕ → ℕ → ℕ
eight_octets octets at = number_of_octets 8 0 octets at 0
