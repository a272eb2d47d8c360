-- Reading on lists, from left to right, with the first fault that is met. The laws that join it to Spelling stand in
-- proofs/ (RFC 1157, 4.1).
use Rattle.std.specs.Prelude.{ℕ, ℤ, pos, negsuc, zero, suc, ◌+◌, ◌-◌, Bool, false, nat_lt, nat_le}
use Rattle.std.specs.Prelude.{◌==◌, ◌&&◌, List, [], ◌∷◌, length, take, drop, Option, Some, None}
use Rattle.std.specs.Prelude.{ok_or, option_map, ◌||◌, Result, Ok, Err, if◌then◌else◌}
use Rattle.dms_wire_ber.specs.declared.fault.FaultKind.TheVariants.{Truncated, BadTag, BadLength, BadInteger}
use Rattle.dms_wire_ber.specs.declared.fault.FaultKind.TheVariants.{BadName, BadVersion, TooLong}
use Rattle.dms_wire_ber.specs.declared.fault.WireFault.{WireFault}
use Rattle.dms_wire.specs.declared.message.Kind.{Kind}
use Rattle.dms_wire.specs.declared.message.Kind.TheVariants.{Get, GetNext, Response, Set}
use Rattle.dms_wire.specs.Message.{ObjectValue, integer, octet_string, null, object_identifier}
use Rattle.dms_wire.specs.Message.{ip_address, counter, gauge, time_ticks, opaque, VarBind, SnmpMessage}
use Rattle.dms_wire_ber.specs.NameReading.{is_name, numbers_of}
use Rattle.dms_wire_ber.specs.Reading.{◌>>=◌, fault, length_at, integer_value, content_at, element_at}
use Rattle.dms_wire_ber.specs.Reading.{offset_of_content, integer_at, name_at, natural_value, ended}
use Rattle.dms_wire_ber.specs.Limits.{longest_datagram}
use Rattle.dms_wire_ber.specs.Tags.{integer_tag, null_tag, object_identifier_tag, octet_string_tag, sequence_tag}
use Rattle.dms_wire.specs.Tags.{counter_tag, gauge_tag, get_next_tag, get_tag, ip_address_tag, opaque_tag}
use Rattle.dms_wire.specs.Tags.{response_tag, set_tag, time_ticks_tag}

-- The value that a tag and a content are. before is the offset of the length, and place that of the content.
unfoldable pub value_from : ℕ → ℕ → ℕ → List ℕ → Result ObjectValue WireFault
value_from tag before place content =
    if tag == integer_tag then (ok_or (option_map integer (integer_value content)) (fault BadInteger place))
    else if tag == octet_string_tag then Ok (octet_string content)
    else if tag == null_tag then (if length content == 0 then Ok null else Err (fault BadLength before))
    else if tag == object_identifier_tag
    then (if is_name content then Ok (object_identifier (numbers_of content)) else Err (fault BadName place))
    else if tag == ip_address_tag
    then (if length content == 4 then Ok (ip_address content) else Err (fault BadLength before))
    else if tag == counter_tag then (ok_or (option_map counter (natural_value content)) (fault BadInteger place))
    else if tag == gauge_tag then (ok_or (option_map gauge (natural_value content)) (fault BadInteger place))
    else if tag == time_ticks_tag then (ok_or (option_map time_ticks (natural_value content)) (fault BadInteger place))
    else Ok (opaque content)

abbrev pub is_value_tag : ℕ → Bool
is_value_tag b =
    (b == integer_tag) || (b == octet_string_tag) || (b == null_tag) || (b == object_identifier_tag)
    || (nat_le ip_address_tag b && nat_le b opaque_tag)

unfoldable pub after_tag : ℕ → ℕ → List ℕ → Result (ObjectValue × List ℕ) WireFault
after_tag tag end bytes = do
  c ← content_at end bytes
  d ← value_from tag (end - length bytes) (offset_of_content end c.0 c.1) c.0
  Ok (d, c.1)

unfoldable pub value_at : ℕ → List ℕ → Result (ObjectValue × List ℕ) WireFault
value_at end [] = Err (fault Truncated end)
value_at end (b ∷ bytes) =
    (if is_value_tag b then after_tag b end bytes else Err (fault BadTag (end - length (b ∷ bytes))))

-- a binding's two members, in its content
unfoldable pub members_at : ℕ → List ℕ → Result VarBind WireFault
members_at end bytes = do
  n ← name_at end bytes
  v ← value_at end n.1
  _ ← ended end v.1
  Ok (record { name = n.0; value = v.0 })

unfoldable pub binding_at : ℕ → List ℕ → Result (VarBind × List ℕ) WireFault
binding_at end bytes = do
  c ← element_at sequence_tag end bytes
  m ← members_at (end - length c.1) c.0
  Ok (m, c.1)

-- at most k bindings
unfoldable pub bindings_up_to : ℕ → ℕ → List ℕ → Result (List VarBind) WireFault
bindings_up_to zero end bytes = Ok []
bindings_up_to (suc k) end [] = Ok []
bindings_up_to (suc k) end (b ∷ bytes) = do
  first ← binding_at end (b ∷ bytes)
  others ← bindings_up_to k end first.1
  Ok (first.0 ∷ others)

abbrev pub bindings_at : ℕ → List ℕ → Result (List VarBind) WireFault
bindings_at end bytes = bindings_up_to (length bytes) end bytes

abbrev pub is_zero : ℤ → Bool
is_zero (pos n) = n == 0
is_zero (negsuc n) = false

abbrev pub kind_of : ℕ → Option Kind
kind_of b =
    (if b == get_tag then Some Get
    else if b == get_next_tag then Some GetNext
    else if b == response_tag then Some Response
    else if b == set_tag then Some Set else None)

-- the version, which is 0
abbrev pub version_of : ℕ → List ℕ → Result (Unit {0}) WireFault
version_of place content = do
  z ← ok_or (integer_value content) (fault BadInteger place)
  if is_zero z then Ok tt else Err (fault BadVersion place)

unfoldable pub version_at : ℕ → List ℕ → Result (Unit {0} × List ℕ) WireFault
version_at end bytes = do
  c ← element_at integer_tag end bytes
  v ← version_of (offset_of_content end c.0 c.1) c.0
  Ok (v, c.1)

unfoldable pub list_at : ℕ → List ℕ → Result (List VarBind × List ℕ) WireFault
list_at end bytes = do
  c ← element_at sequence_tag end bytes
  es ← bindings_at (end - length c.1) c.0
  Ok (es, c.1)

-- what a PDU says beside its kind
pub record Numbered : Type 0 where
  pub request : ℤ
  pub status : ℤ
  pub index : ℤ
  pub bindings : List VarBind

unfoldable pub pdu_at : ℕ → List ℕ → Result Numbered WireFault
pdu_at end bytes = do
  request ← integer_at end bytes
  status ← integer_at end request.1
  index ← integer_at end status.1
  bindings ← list_at end index.1
  _ ← ended end bindings.1
  Ok (record { request = request.0; status = status.0; index = index.0; bindings = bindings.0 })

unfoldable pub tagged_pdu_at : ℕ → List ℕ → Result ((Kind × Numbered) × List ℕ) WireFault
tagged_pdu_at end [] = Err (fault Truncated end)
tagged_pdu_at end (b ∷ bytes) = do
  kind ← ok_or (kind_of b) (fault BadTag (end - length (b ∷ bytes)))
  c ← content_at end bytes
  p ← pdu_at (end - length c.1) c.0
  Ok ((kind, p), c.1)

-- the three members of a message
unfoldable pub inside_at : ℕ → List ℕ → Result SnmpMessage WireFault
inside_at end bytes = do
  version ← version_at end bytes
  community ← element_at octet_string_tag end version.1
  p ← tagged_pdu_at end community.1
  _ ← ended end p.1
  Ok (record {
    community = community.0;
    kind = p.0.0;
    request = p.0.1.request;
    status = p.0.1.status;
    index = p.0.1.index;
    bindings = p.0.1.bindings;
  })

-- the outermost element's content after its tag, and what follows it
unfoldable pub outer_content : ℕ → List ℕ → Result (List ℕ × List ℕ) WireFault
outer_content end bytes = do
  n ← length_at end bytes
  if nat_lt (length n.1) n.0 then Err (fault Truncated end) else Ok (take n.0 n.1, drop n.0 n.1)

unfoldable pub outer_at : List ℕ → Result (List ℕ × List ℕ) WireFault
outer_at [] = Err (fault Truncated 0)
outer_at (b ∷ bytes) = (if b == sequence_tag then outer_content (1 + length bytes) bytes else Err (fault BadTag 0))

unfoldable pub datagram_at : List ℕ → Result SnmpMessage WireFault
datagram_at bytes = do
  c ← outer_at bytes
  m ← inside_at (length bytes - length c.1) c.0
  _ ← ended (length bytes) c.1
  Ok m

unfoldable pub message_at : List ℕ → Result SnmpMessage WireFault
message_at bytes =
    if nat_lt longest_datagram (length bytes) then Err (fault TooLong longest_datagram) else datagram_at bytes
