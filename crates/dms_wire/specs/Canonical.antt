-- The shortest spelling of a message: each length in its shortest form, each number without needless digits (X.690,
-- 10.1, and this profile).
use Rattle.std.specs.Prelude.{ℕ, pos, List, [], ◌∷◌, ◌++◌}
use Rattle.std.specs.List.{flat_map}
use Rattle.dms_wire.specs.Message.{ObjectValue, integer, octet_string, null, object_identifier}
use Rattle.dms_wire.specs.Message.{ip_address, counter, gauge, time_ticks, opaque, VarBind, SnmpMessage}
use Rattle.dms_wire.specs.Spelling.{tag_of}
use Rattle.dms_wire_ber.specs.Element.{element}
use Rattle.dms_wire_ber.specs.Integer.{integer_octets}
use Rattle.dms_wire_ber.specs.ObjectIdentifier.{name_octets}
use Rattle.dms_wire_ber.specs.Tags.{integer_tag, null_tag, object_identifier_tag, octet_string_tag, sequence_tag}
use Rattle.dms_wire.specs.Tags.{counter_tag, gauge_tag, ip_address_tag, opaque_tag, time_ticks_tag}

abbrev pub value_octets : ObjectValue → List ℕ
value_octets (integer z) = element integer_tag (integer_octets z)
value_octets (octet_string s) = element octet_string_tag s
value_octets null = element null_tag []
value_octets (object_identifier numbers) = element object_identifier_tag (name_octets numbers)
value_octets (ip_address address) = element ip_address_tag address
value_octets (counter n) = element counter_tag (integer_octets (pos n))
value_octets (gauge n) = element gauge_tag (integer_octets (pos n))
value_octets (time_ticks n) = element time_ticks_tag (integer_octets (pos n))
value_octets (opaque s) = element opaque_tag s

unfoldable pub binding_octets : VarBind → List ℕ
binding_octets b = element sequence_tag (element object_identifier_tag (name_octets b.name) ++ value_octets b.value)

-- request-id, error-status and error-index
unfoldable pub numbers_octets : SnmpMessage → List ℕ
numbers_octets m = element integer_tag (integer_octets m.request) ++ element integer_tag (integer_octets m.status)
    ++ element integer_tag (integer_octets m.index)

unfoldable pub pdu_octets : SnmpMessage → List ℕ
pdu_octets m = numbers_octets m ++ element sequence_tag (flat_map binding_octets m.bindings)

unfoldable pub canonical : SnmpMessage → List ℕ
canonical m =
    element sequence_tag (element integer_tag (0 ∷ []) ++ element octet_string_tag m.community
    ++ element (tag_of m.kind) (pdu_octets m))
