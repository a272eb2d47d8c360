-- The Response to a message (RFC 1157, 4.1.2 to 4.1.5).
use Rattle.std.specs.Prelude.{ℕ, pos, List}
use Rattle.dms_wire.specs.declared.message.Kind.TheVariants.{Response}
use Rattle.dms_wire.specs.Message.{VarBind, SnmpMessage}

-- it repeats the community and the request-id
abbrev pub response_with : SnmpMessage → ℕ → ℕ → List VarBind → SnmpMessage
response_with m status index bindings =
    record m { kind = Response; status = pos status; index = pos index; bindings = bindings }

-- it repeats the bindings too: of a request that is refused, and of a SET that is done
abbrev pub response_to : SnmpMessage → ℕ → ℕ → SnmpMessage
response_to m status index = record m { kind = Response; status = pos status; index = pos index }
