-- Values of objects and what a manager may write to them, as C gives them: by a number and octets (this profile).
use Rattle.std.specs.Prelude.{ℕ, ℤ, pos, negsuc, ◌==◌, ◌||◌, ◌^◌, Bool, nat_lt, if◌then◌else◌, List, [], length}
use Rattle.std.specs.Prelude.{Option, Some, None, option_map}
use Rattle.dms_wire_ber.specs.NameReading.{is_name, numbers_of}
use Rattle.dms_wire_ber.specs.ObjectIdentifier.{name_octets}
use Rattle.dms_wire.specs.Message.{ObjectValue, integer, octet_string, null, object_identifier}
use Rattle.dms_wire.specs.Message.{ip_address, counter, gauge, time_ticks, opaque}
use Rattle.dms_device.specs.declared.access.ManagerAccess.{ManagerAccess}
use Rattle.dms_device.specs.declared.access.ManagerAccess.TheVariants.{ReadOnly, Number, Octets}
use Rattle.wisangub_c_values.specs.declared.object_values.ValueParts.{ValueParts}
use Rattle.wisangub_c_values.specs.declared.object_values.AccessParts.{AccessParts}

-- ---- what is given: the types are the tags that they have in a message (X.690, 8.1.2, and RFC 1155, 3.2)

-- a whole number from 0 to so many less one
abbrev pub natural_below : ℕ → ℤ → Option ℕ
natural_below bound (pos n) = if nat_lt n bound then Some n else None
natural_below bound (negsuc n) = None

-- a Counter, a Gauge or TimeTicks
abbrev pub natural_given : ℤ → Option ℕ
natural_given number = natural_below (2 ^ 32) number

-- an OBJECT IDENTIFIER of these content octets
abbrev pub name_given : List ℕ → Option (List ℕ)
name_given octets = if is_name octets then Some (numbers_of octets) else None

-- an IpAddress has four octets
abbrev pub address_given : List ℕ → Option ObjectValue
address_given octets = if length octets == 4 then Some (ip_address octets) else None

-- the value is its octets, and the number says nothing
abbrev pub is_octets : ℕ → Bool
is_octets kind = (kind == 4) || (kind == 6) || (kind == 64) || (kind == 68)

abbrev pub octets_given : ℕ → List ℕ → Option ObjectValue
octets_given kind octets =
    if kind == 4 then Some (octet_string octets)
    else if kind == 6 then option_map object_identifier (name_given octets)
    else if kind == 64 then address_given octets
    else if kind == 68 then Some (opaque octets)
    else None

abbrev pub number_given : ℕ → ℤ → Option ObjectValue
number_given kind number =
    if kind == 2 then Some (integer number)
    else if kind == 5 then Some null
    else if kind == 65 then option_map counter (natural_given number)
    else if kind == 66 then option_map gauge (natural_given number)
    else if kind == 67 then option_map time_ticks (natural_given number)
    else None

-- the value of a type, with this number or these octets
abbrev pub value_given : ValueParts → List ℕ → Option ObjectValue
value_given parts octets =
    if is_octets parts.kind then octets_given parts.kind octets else number_given parts.kind parts.number

-- as many octets as two octets say
abbrev pub size_given : ℤ → Option ℕ
size_given number = natural_below (2 ^ 16) number

abbrev pub sizes_given : Option ℕ → Option ℕ → Option ManagerAccess
sizes_given (Some least) (Some most) = Some (Octets least most)
sizes_given (Some least) None = None
sizes_given None most = None

-- what a manager may write: at 0 nothing, at 1 a number, at 2 octets
abbrev pub access_given : AccessParts → Option ManagerAccess
access_given parts =
    if parts.kind == 0 then Some ReadOnly
    else if parts.kind == 1 then Some (Number parts.least parts.most)
    else if parts.kind == 2 then sizes_given (size_given parts.least) (size_given parts.most)
    else None

-- ---- what is handed out

abbrev pub kind_of : ObjectValue → ℕ
kind_of (integer z) = 2
kind_of (octet_string s) = 4
kind_of null = 5
kind_of (object_identifier n) = 6
kind_of (ip_address a) = 64
kind_of (counter n) = 65
kind_of (gauge n) = 66
kind_of (time_ticks n) = 67
kind_of (opaque s) = 68

-- 0 of a value that is its octets
abbrev pub number_of : ObjectValue → ℤ
number_of (integer z) = z
number_of (octet_string s) = pos 0
number_of null = pos 0
number_of (object_identifier n) = pos 0
number_of (ip_address a) = pos 0
number_of (counter n) = pos n
number_of (gauge n) = pos n
number_of (time_ticks n) = pos n
number_of (opaque s) = pos 0

-- none of a value that is its number
abbrev pub octets_of : ObjectValue → List ℕ
octets_of (integer z) = []
octets_of (octet_string s) = s
octets_of null = []
octets_of (object_identifier n) = name_octets n
octets_of (ip_address a) = a
octets_of (counter n) = []
octets_of (gauge n) = []
octets_of (time_ticks n) = []
octets_of (opaque s) = s

abbrev pub parts_of : ObjectValue → ValueParts
parts_of value = record { number = number_of value; kind = kind_of value }
