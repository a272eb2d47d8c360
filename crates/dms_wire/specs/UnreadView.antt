-- What the code's messages say of which the bindings are still to be read.
use Rattle.std.specs.Prelude.{pos, List, Result, Ok, Err}
use Rattle.dms_wire_ber.specs.declared.fault.WireFault.{WireFault}
use Rattle.dms_wire.specs.declared.usual.Unread.{Unread}
use Rattle.dms_wire.specs.Message.{VarBind, SnmpMessage}

abbrev pub unread_message : Unread → List VarBind → SnmpMessage
unread_message u bindings = record {
  community = u.community.now;
  kind = u.kind;
  request = u.request;
  status = pos u.status;
  index = pos u.index;
  bindings = bindings;
}

-- the message with the bindings that were read, or their fault
abbrev pub with_bindings : (List VarBind → SnmpMessage) → Result (List VarBind) WireFault → Result SnmpMessage WireFault
with_bindings message (Ok bindings) = Ok (message bindings)
with_bindings message (Err fault) = Err fault
