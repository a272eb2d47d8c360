-- Reading and writing a given message, computed.
use Rattle.std.proofs.Common.{◌≡◌, ℕ, pos, List, [], ◌∷◌, Some, refl}
use Rattle.dms_wire.specs.declared.message.Kind.TheVariants.{Get}
use Rattle.dms_wire.specs.Message.{null, SnmpMessage}
use Rattle.dms_wire_ber.specs.Element.{element}
use Rattle.dms_wire_ber.specs.Integer.{integer_octets}
use Rattle.dms_wire_ber.specs.ObjectIdentifier.{name_octets}
use Rattle.dms_wire.specs.Canonical.{binding_octets, numbers_octets, pdu_octets, canonical}
use Rattle.dms_wire.specs.MessageOf.{message_of}

-- a Get with community "public" and request-id 1, for one object
abbrev pub get : SnmpMessage
get = record {
  community = 112 ∷ 117 ∷ 98 ∷ 108 ∷ 105 ∷ 99 ∷ [];
  kind = Get;
  request = pos 1;
  status = pos 0;
  index = pos 0;
  bindings = record { name = 1 ∷ 3 ∷ 6 ∷ 1 ∷ 4 ∷ 1 ∷ 1206 ∷ 4 ∷ 2 ∷ 3 ∷ 5 ∷ 8 ∷ 1 ∷ 9 ∷ 3 ∷ 1 ∷ []; value = null } ∷ [];
}

abbrev pub get_octets : List ℕ
get_octets =
    0x30 ∷ 0x2e ∷ 0x02 ∷ 0x01 ∷ 0x00 ∷ 0x04 ∷ 0x06 ∷ 0x70 ∷ 0x75 ∷ 0x62 ∷ 0x6c ∷ 0x69 ∷ 0x63 ∷ 0xa0 ∷ 0x21 ∷ 0x02
    ∷ 0x01 ∷ 0x01 ∷ 0x02 ∷ 0x01 ∷ 0x00 ∷ 0x02 ∷ 0x01 ∷ 0x00 ∷ 0x30 ∷ 0x16 ∷ 0x30 ∷ 0x14 ∷ 0x06 ∷ 0x10 ∷ 0x2b ∷ 0x06
    ∷ 0x01 ∷ 0x04 ∷ 0x01 ∷ 0x89 ∷ 0x36 ∷ 0x04 ∷ 0x02 ∷ 0x03 ∷ 0x05 ∷ 0x08 ∷ 0x01 ∷ 0x09 ∷ 0x03 ∷ 0x01 ∷ 0x05 ∷ 0x00 ∷ []

pub get_read : message_of get_octets ≡ Some get
unfolding message_of
get_read = refl

pub get_canonical : canonical get ≡ get_octets
unfolding element integer_octets name_octets binding_octets numbers_octets pdu_octets canonical
get_canonical = refl
