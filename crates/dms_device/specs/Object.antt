-- An object that firmware publishes beside those of a sign: its name, what it reads, and what a manager may write to it
-- (NTCIP 1203 gives each object an ACCESS and a SYNTAX).
use Rattle.std.specs.Prelude.{◌≡◌, ℕ, Bool, true, false, ◌&&◌, not, List, length, nat_le, int_le}
use Rattle.std.specs.Prelude.{Option, Some, None, if◌then◌else◌}
use Rattle.dms_wire_ber.specs.NameReading.{is_name, numbers_of}
use Rattle.dms_wire_ber.specs.Integer.{in_range}
use Rattle.dms_wire.specs.Message.{ObjectValue, integer, octet_string}
use Rattle.dms_device.specs.declared.access.ManagerAccess.{ManagerAccess}
use Rattle.dms_device.specs.declared.access.ManagerAccess.TheVariants.{ReadOnly, Number, Octets}
use Rattle.dms_device.specs.declared.fault.ObjectFault.{ObjectFault}
use Rattle.dms_device.specs.declared.fault.ObjectFault.TheVariants.{NoName, NoInteger, Unfit, OutOfMemory}

pub record DeviceObject : Type 0 where
  pub name : List ℕ
  pub value : ObjectValue
  pub access : ManagerAccess
  -- a manager set it, and firmware was not told yet
  pub is_set : Bool
  -- its value is one that a manager set, whether firmware was told or not
  pub by_manager : Bool

-- a manager may write the value: a number from least to most, or octets of which there are least to most
abbrev pub admits : ManagerAccess → ObjectValue → Bool
admits (Number least most) (integer z) = int_le least z && int_le z most
admits (Octets least most) (octet_string s) = nat_le least (length s) && nat_le (length s) most
admits _ _ = false

-- what an object reads is a value that might be written to it; one that is only read may have any
abbrev pub fits : ManagerAccess → ObjectValue → Bool
fits ReadOnly value = true
fits access value = admits access value

-- an INTEGER that a message can have (this profile); any other value
abbrev pub can_be_sent : ObjectValue → Bool
can_be_sent (integer z) = in_range z
can_be_sent _ = true

-- why there is no object with this name, of which these are the content octets
abbrev pub object_fault : List ℕ → ObjectValue → ManagerAccess → Option ObjectFault
object_fault octets value access =
    if not (is_name octets) then Some NoName
    else if not (can_be_sent value) then Some NoInteger
    else if not (fits access value) then Some Unfit
    else None

-- the first thing that is wrong; memory runs out only where nothing is
abbrev pub IsFirstFault : Option ObjectFault → ObjectFault → Type 0
IsFirstFault (Some first) fault = fault ≡ first
IsFirstFault None fault = fault ≡ OutOfMemory

-- the object as it is made: its value is no manager's
abbrev pub new_object : List ℕ → ObjectValue → ManagerAccess → DeviceObject
new_object octets value access =
    record { name = numbers_of octets; value = value; access = access; is_set = false; by_manager = false }
