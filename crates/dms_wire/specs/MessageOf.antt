-- The message that octets spell, where they spell one: it can be computed (RFC 1157, 4.1).
use Rattle.std.specs.Prelude.{ℕ, Bool, nat_lt, List, Option, None, if◌then◌else◌}
use Rattle.std.specs.List.{list_all}
use Rattle.std.specs.Result.{result_ok}
use Rattle.dms_wire.specs.Message.{SnmpMessage}
use Rattle.dms_wire_ber.specs.NameReading.{goes_on}
use Rattle.dms_wire_ber.specs.Reading.{length_at, integer_value, content_at, element_at, integer_at, name_at, ended}
use Rattle.dms_wire.specs.Reading.{value_from, after_tag, value_at, members_at, binding_at}
use Rattle.dms_wire.specs.Reading.{bindings_up_to, version_at, list_at, pdu_at, tagged_pdu_at}
use Rattle.dms_wire.specs.Reading.{inside_at, outer_content, outer_at, datagram_at, message_at}

abbrev pub are_octets : List ℕ → Bool
are_octets bytes = list_all (λ b. nat_lt b 256) bytes

-- Who unfolds it unfolds all of the reading, so that it computes on given octets.
unfoldable pub message_of : List ℕ → Option SnmpMessage
unfolding goes_on length_at integer_value content_at element_at integer_at name_at value_from after_tag value_at ended
    members_at binding_at bindings_up_to version_at list_at pdu_at tagged_pdu_at inside_at outer_content outer_at
    datagram_at message_at
message_of bytes = if are_octets bytes then result_ok (message_at bytes) else None
