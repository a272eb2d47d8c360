-- What is promised of an agent (this profile).
use Rattle.std.specs.Prelude.{◌&&◌, Bool, true, false, if◌then◌else◌, List, [], is_none}
use Rattle.dms_wire.specs.declared.message.Kind.{Kind}
use Rattle.dms_wire.specs.declared.message.Kind.TheVariants.{Get, GetNext, Response, Set}
use Rattle.dms_wire.specs.Message.{SnmpMessage}
use Rattle.dms_sign.specs.Requests.{may_write}
use Rattle.dms_sign.specs.ReplyView.{is_addressed}
use Rattle.dms_sign.specs.State.{SignState}
use Rattle.dms_device.specs.Object.{DeviceObject}
use Rattle.dms_device.specs.Setting.{are_all_named, refusal_of, written}
use Rattle.dms_agent.specs.declared.agent.Agent.{Agent}

-- the sign with a device that has no objects, whose fonts cannot be read
abbrev pub alone : SignState → Agent
alone s = record { sign = s; device = []; has_fonts = false }

abbrev pub is_set : Kind → Bool
is_set Get = false
is_set GetNext = false
is_set Response = false
is_set Set = true

-- a Set of the device's that is heard, and refused for nothing
abbrev pub is_done : Agent → SnmpMessage → Bool
is_done a m =
    is_addressed a.sign m && is_set m.kind && are_all_named a.device m.bindings
    && is_none (refusal_of a.device (may_write a.sign m) m.bindings)

-- the objects after a message: a Set that is done wrote its values, and nothing else changed any
abbrev pub objects_after : Agent → SnmpMessage → List DeviceObject
objects_after a m = if is_done a m then written a.device m.bindings else a.device
