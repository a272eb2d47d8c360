-- Which octets spell a message: the encodings of X.690 (8.1, 8.3, 8.7 to 8.9, 8.19) in the order of RFC 1157, 4.1, with
-- the tags of RFC 1155, 3.2.3.
use Rattle.std.specs.Prelude.{◌≡◌, ℕ, pos, ◌≤◌, List, [], ◌∷◌, length}
use Rattle.std.specs.Int.Digits.{AllBelowBase}
use Rattle.dms_wire.specs.declared.message.Kind.{Kind}
use Rattle.dms_wire.specs.declared.message.Kind.TheVariants.{Get, GetNext, Response, Set}
use Rattle.dms_wire.specs.Message.{ObjectValue, integer, octet_string, null, object_identifier}
use Rattle.dms_wire.specs.Message.{ip_address, counter, gauge, time_ticks, opaque, VarBind, SnmpMessage}
use Rattle.dms_wire_ber.specs.Element.{IsElement, ◌⨾◌}
use Rattle.dms_wire_ber.specs.Integer.{IsInteger}
use Rattle.dms_wire_ber.specs.ObjectIdentifier.{IsName}
use Rattle.dms_wire_ber.specs.Limits.{longest_datagram}
use Rattle.dms_wire_ber.specs.Tags.{integer_tag, null_tag, object_identifier_tag, octet_string_tag, sequence_tag}
use Rattle.dms_wire.specs.Tags.{counter_tag, gauge_tag, get_next_tag, get_tag, ip_address_tag, opaque_tag}
use Rattle.dms_wire.specs.Tags.{response_tag, set_tag, time_ticks_tag}

-- an address is four octets
abbrev pub IsAddress : List ℕ → List ℕ → Type 0
IsAddress address content = (content ≡ address) × (length address ≡ 4)

abbrev pub IsValue : ObjectValue → List ℕ → Type 0
IsValue (integer z) = IsElement integer_tag (IsInteger z)
IsValue (octet_string s) = IsElement octet_string_tag (λ content. content ≡ s)
IsValue null = IsElement null_tag (λ content. content ≡ [])
IsValue (object_identifier numbers) = IsElement object_identifier_tag (IsName numbers)
IsValue (ip_address address) = IsElement ip_address_tag (IsAddress address)
IsValue (counter n) = IsElement counter_tag (IsInteger (pos n))
IsValue (gauge n) = IsElement gauge_tag (IsInteger (pos n))
IsValue (time_ticks n) = IsElement time_ticks_tag (IsInteger (pos n))
IsValue (opaque s) = IsElement opaque_tag (λ content. content ≡ s)

-- a binding is a sequence of a name and a value
abbrev pub IsBinding : VarBind → List ℕ → Type 0
IsBinding b = IsElement sequence_tag (IsElement object_identifier_tag (IsName b.name) ⨾ IsValue b.value)

-- bindings, one after the other
abbrev pub AreBindings : List VarBind → List ℕ → Type 0
AreBindings [] bytes = bytes ≡ []
AreBindings (b ∷ bs) bytes = (IsBinding b ⨾ AreBindings bs) bytes

abbrev pub tag_of : Kind → ℕ
tag_of Get = get_tag
tag_of GetNext = get_next_tag
tag_of Response = response_tag
tag_of Set = set_tag

-- request-id, error-status, error-index and the list of bindings
abbrev pub IsPdu : SnmpMessage → List ℕ → Type 0
IsPdu m =
    IsElement integer_tag (IsInteger m.request) ⨾ IsElement integer_tag (IsInteger m.status)
    ⨾ IsElement integer_tag (IsInteger m.index)
    ⨾ IsElement sequence_tag (AreBindings m.bindings)

-- version 0, community and PDU
abbrev pub IsMessage : SnmpMessage → List ℕ → Type 0
IsMessage m =
    IsElement sequence_tag (IsElement integer_tag (IsInteger (pos 0))
    ⨾ IsElement octet_string_tag (λ content. content ≡ m.community) ⨾ IsElement (tag_of m.kind) (IsPdu m))

-- at most longest_datagram octets that are the message's element, with nothing after it
pub record Spells (m : SnmpMessage) (bytes : List ℕ) : Type 0 where
  pub octets : AllBelowBase 256 bytes
  pub size : length bytes ≤ longest_datagram
  pub message : IsMessage m bytes
