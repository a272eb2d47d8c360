-- The objects that firmware publishes beside a sign's, as C publishes, withdraws and reads them (this profile).
use Rattle.std.specs.Prelude.{ℕ, ◌==◌, ◌&&◌, Bool, false, if◌then◌else◌, List, length, nat_lt, nat_le, slice_get}
use Rattle.std.specs.Prelude.{Option, Some, None, is_some, is_none}
use Rattle.dms_wire_ber.specs.ObjectIdentifier.{name_octets}
use Rattle.dms_wire.specs.Message.{ObjectValue, VarBind}
use Rattle.dms_device.specs.declared.access.ManagerAccess.{ManagerAccess}
use Rattle.dms_device.specs.Object.{DeviceObject, object_fault, new_object}
use Rattle.dms_device.specs.Objects.{device_value}
use Rattle.dms_device.specs.Publishing.{published, withdrawn}
use Rattle.dms_device.specs.Taken.{set_bindings, told_first}
use Rattle.dms_agent.specs.declared.agent.Agent.{Agent}
use Rattle.dms_agent.specs.Values.{own_value, agent_value, is_bare}
use Rattle.wisangub_c.specs.Answers.{done, nothing_sent, too_small, at_fault, out_of_range}
use Rattle.wisangub_c.specs.Answers.{put_first, given_answer, given_buffer}
use Rattle.wisangub_c_values.specs.declared.object_values.ValueParts.{ValueParts}
use Rattle.wisangub_c_values.specs.ObjectValues.{name_given, octets_of, parts_of}

-- ---- publishing

-- the sign reads nothing by this name
abbrev pub is_free_name : Agent → Option (List ℕ) → Bool
is_free_name a None = false
is_free_name a (Some name) = is_none (own_value a name)

-- the octets are a name, by which the sign reads nothing
abbrev pub is_free : Agent → List ℕ → Bool
is_free a octets = is_free_name a (name_given octets)

-- the object with this name, value and access, where nothing is wrong with it
abbrev pub object_given : List ℕ → Option ObjectValue → Option ManagerAccess → Option DeviceObject
object_given octets (Some value) (Some access) =
    if is_none (object_fault octets value access) then Some (new_object octets value access) else None
object_given octets (Some value) None = None
object_given octets None access = None

-- a name that is none or the sign's is at fault; a value or an access is out of its range
abbrev pub publish_answer : Agent → List ℕ → Option DeviceObject → ℕ
publish_answer a octets object =
    if is_free a octets then (if is_some object then done else out_of_range) else at_fault

abbrev pub published_if : Agent → Option DeviceObject → Agent
published_if a None = a
published_if a (Some object) = record a { device = published a.device object }

abbrev pub after_publish : Agent → List ℕ → Option DeviceObject → Agent
after_publish a octets object = if is_free a octets then published_if a object else a

-- ---- fonts that can be read from here on: an object that is published already is in the way

abbrev pub fonts_answer : Agent → ℕ
fonts_answer a = if is_bare a then done else at_fault

-- ---- withdrawing

-- the octets are the name of an object that is published
abbrev pub is_published : List DeviceObject → Option (List ℕ) → Bool
is_published objects None = false
is_published objects (Some name) = is_some (device_value objects name)

abbrev pub withdraw_answer : List DeviceObject → Option (List ℕ) → ℕ
withdraw_answer objects name = if is_published objects name then done else at_fault

abbrev pub after_withdraw : Agent → Option (List ℕ) → Agent
after_withdraw a None = a
after_withdraw a (Some name) =
    if is_some (device_value a.device name) then record a { device = withdrawn a.device name } else a

-- ---- what a name reads, of the sign's and those that are published; what is read by none is at fault

abbrev pub value_read : Agent → Option (List ℕ) → Option ObjectValue
value_read a None = None
value_read a (Some name) = agent_value a name

abbrev pub read_answer : Option ObjectValue → ℕ → ℕ
read_answer None room = at_fault
read_answer (Some value) room = given_answer (octets_of value) room

abbrev pub read_size : Option ObjectValue → ℕ → ℕ
read_size None old = old
read_size (Some value) old = length (octets_of value)

abbrev pub read_buffer : Option ObjectValue → List ℕ → List ℕ
read_buffer None buffer = buffer
read_buffer (Some value) buffer = given_buffer (octets_of value) buffer

-- where there is no room for the octets, what was there stays
abbrev pub read_parts : Option ObjectValue → ℕ → ValueParts → ValueParts
read_parts None room old = old
read_parts (Some value) room old = if nat_lt room (length (octets_of value)) then old else parts_of value

-- ---- what was set: the first object, by its name, that a manager set and of which firmware was not told

abbrev pub next_set : List DeviceObject → Option VarBind
next_set objects = slice_get (set_bindings objects) 0

-- there is room for the name and the octets of the value
abbrev pub has_room : VarBind → ℕ → ℕ → Bool
has_room b name_room room = nat_le (length (name_octets b.name)) name_room && nat_le (length (octets_of b.value)) room

abbrev pub taken_answer : Option VarBind → ℕ → ℕ → ℕ
taken_answer None name_room room = nothing_sent
taken_answer (Some b) name_room room = if has_room b name_room room then done else too_small

-- the sizes that are needed, and 0 where nothing was set
abbrev pub taken_name_size : Option VarBind → ℕ
taken_name_size None = 0
taken_name_size (Some b) = length (name_octets b.name)

abbrev pub taken_size : Option VarBind → ℕ
taken_size None = 0
taken_size (Some b) = length (octets_of b.value)

-- without room for both, nothing is handed out
abbrev pub taken_name : Option VarBind → ℕ → List ℕ → List ℕ
taken_name None room buffer = buffer
taken_name (Some b) room buffer =
    if has_room b (length buffer) room then put_first (name_octets b.name) buffer else buffer

abbrev pub taken_octets : Option VarBind → ℕ → List ℕ → List ℕ
taken_octets None name_room buffer = buffer
taken_octets (Some b) name_room buffer =
    if has_room b name_room (length buffer) then put_first (octets_of b.value) buffer else buffer

abbrev pub taken_parts : Option VarBind → ℕ → ℕ → ValueParts → ValueParts
taken_parts None name_room room old = old
taken_parts (Some b) name_room room old = if has_room b name_room room then parts_of b.value else old

-- firmware was told of what was handed out
abbrev pub after_taken : Agent → ℕ → Agent
after_taken a answer = if answer == done then record a { device = told_first a.device } else a
