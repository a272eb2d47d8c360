-- What the code's messages say.
use Rattle.std.specs.Prelude.{ℕ, List, map}
use Rattle.dms_wire.specs.declared.value.Value.{Value}
use Rattle.dms_wire.specs.declared.value.Value.TheVariants.{Integer, Octets, Null, Name, Address}
use Rattle.dms_wire.specs.declared.value.Value.TheVariants.{Counter, Gauge, Ticks, Opaque}
use Rattle.dms_wire.specs.declared.binding.Bind.{Bind}
use Rattle.dms_wire.specs.declared.message.Message.{Message}
use Rattle.dms_wire.specs.declared.message.Header.{Header}
use Rattle.dms_wire.specs.declared.message.MessageParts.{MessageParts}
use Rattle.dms_wire.specs.Message.{ObjectValue, integer, octet_string, null, object_identifier}
use Rattle.dms_wire.specs.Message.{ip_address, counter, gauge, time_ticks, opaque, VarBind, SnmpMessage}

abbrev pub object_value : Value → ObjectValue
object_value (Integer z) = integer z
object_value (Octets s) = octet_string s.now
object_value Null = null
object_value (Name o) = object_identifier o
object_value (Address a) = ip_address a
object_value (Counter n) = counter n
object_value (Gauge n) = gauge n
object_value (Ticks n) = time_ticks n
object_value (Opaque s) = opaque s.now

-- the binding of a name and a value
abbrev pub binding_of : List ℕ → Value → VarBind
binding_of name value = record { name = name; value = object_value value }

abbrev pub var_bind : Bind → VarBind
var_bind b = record { name = b.name; value = object_value b.value }

abbrev pub snmp_message : Message → SnmpMessage
snmp_message m = record {
  community = m.community.now;
  kind = m.kind;
  request = m.request;
  status = m.status;
  index = m.index;
  bindings = m.binds;
}

abbrev pub snmp_message_of_parts : MessageParts → SnmpMessage
snmp_message_of_parts p = record {
  community = p.community.now;
  kind = p.kind;
  request = p.request;
  status = p.status;
  index = p.index;
  bindings = map var_bind p.binds.now;
}

abbrev pub message_around : Header → List VarBind → SnmpMessage
message_around h bindings = record {
  community = h.community.now;
  kind = h.kind;
  request = h.request;
  status = h.status;
  index = h.index;
  bindings = bindings;
}
