-- The octets of a message before those of its bindings, of which there are `size` (RFC 1157, 4.1).
use Rattle.std.specs.Prelude.{ℕ, ◌+◌, List, [], ◌∷◌, ◌++◌, length}
use Rattle.dms_wire.specs.Message.{SnmpMessage}
use Rattle.dms_wire.specs.Spelling.{tag_of}
use Rattle.dms_wire_ber.specs.Length.{short_length}
use Rattle.dms_wire_ber.specs.Element.{element}
use Rattle.dms_wire.specs.Canonical.{numbers_octets}
use Rattle.dms_wire_ber.specs.Tags.{integer_tag, octet_string_tag, sequence_tag}

-- how many octets an element with a content of that many takes
abbrev pub element_size : ℕ → ℕ
element_size size = 1 + length (short_length size) + size

-- of the content of a PDU
abbrev pub pdu_size : SnmpMessage → ℕ → ℕ
pdu_size m size = length (numbers_octets m) + element_size size

-- of the content of a message, of which the PDU's content takes that many
abbrev pub content_size : SnmpMessage → ℕ → ℕ
content_size m pdu = 3 + length (element octet_string_tag m.community) + element_size pdu

-- of a message
abbrev pub message_size : SnmpMessage → ℕ → ℕ
message_size m size = element_size (content_size m (pdu_size m size))

abbrev pub pdu_prefix : SnmpMessage → ℕ → List ℕ
pdu_prefix m size = numbers_octets m ++ sequence_tag ∷ short_length size

abbrev pub message_prefix : SnmpMessage → ℕ → List ℕ
message_prefix m pdu =
    element integer_tag (0 ∷ []) ++ element octet_string_tag m.community ++ tag_of m.kind ∷ short_length pdu

abbrev pub prefix : SnmpMessage → ℕ → List ℕ
prefix m size = (sequence_tag ∷ short_length (content_size m (pdu_size m size))) ++ message_prefix m (pdu_size m size)
    ++ pdu_prefix m size
