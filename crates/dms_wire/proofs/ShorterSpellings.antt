-- The canonical spelling of a message is no longer than any other, and its Response no longer than the message.
use Rattle.std.proofs.Common.{◌≡◌, ℕ, pos, ◌<◌, ◌≤◌, List, [], ◌∷◌, ◌++◌, length, refl, ap, subst, append_assoc, length-append, arith, le_trans}
use Rattle.std.specs.Int.Digits.{AllBelowBase}
use Rattle.std.specs.List.{flat_map}
use Rattle.dms_wire.specs.Message.{ObjectValue, integer, octet_string, null, object_identifier, ip_address, counter, gauge, time_ticks, opaque, VarBind, SnmpMessage}
use Rattle.dms_wire_ber.specs.Element.{IsElement, ◌⨾◌}
use Rattle.dms_wire_ber.specs.Integer.{IsInteger}
use Rattle.dms_wire.specs.Spelling.{IsValue, IsBinding, AreBindings, tag_of, IsPdu, IsMessage, Spells}
use Rattle.dms_wire_ber.specs.Element.{element}
use Rattle.dms_wire_ber.specs.Integer.{integer_octets}
use Rattle.dms_wire.specs.Canonical.{value_octets, binding_octets, numbers_octets, pdu_octets, canonical}
use Rattle.dms_wire.specs.Response.{response_to}
use Rattle.dms_wire_ber.proofs.ShorterContents.{NoLonger, short_length_monotone, length_no_longer, integer_no_longer, some_octet, small_no_longer, name_no_longer}

-- the two parts of joined octets are octets
pub below_parts : (xs ys : List ℕ) → AllBelowBase 256 (xs ++ ys) → AllBelowBase 256 xs × AllBelowBase 256 ys
below_parts [] ys below = (tt, below)
below_parts (x ∷ xs) ys below = let rest = below_parts xs ys below.1 in ((below.0, rest.0), rest.1)

-- a content that is one list
pub exactly : (s : List ℕ) → NoLonger s (λ content. content ≡ s)
exactly s = record { than = λ bytes below e. rw e (omega arith) }

element_length : (tag any : ℕ) (Content : List ℕ → Type 0) (short bytes : List ℕ) → NoLonger short Content → AllBelowBase 256 bytes → IsElement tag Content bytes
    → length (element any short) ≤ length bytes
unfolding element
element_length tag any Content short bytes shorter below e = grind (arith, below_parts, le_trans, short_length_monotone, length_no_longer, length-append)

-- the tag may differ, since each is one octet
pub element_no_longer : {tag : ℕ} {Content : List ℕ → Type 0} {short : List ℕ} (any : ℕ) → NoLonger short Content → NoLonger (element any short) (IsElement tag Content)
element_no_longer {tag} {Content} {short} any shorter = record { than = λ bytes. element_length tag any Content short bytes shorter }

pub sequence_no_longer : {First Second : List ℕ → Type 0} {xs ys : List ℕ} → NoLonger xs First → NoLonger ys Second → NoLonger (xs ++ ys) (First ⨾ Second)
sequence_no_longer {First} {Second} {xs} {ys} first second = record {
  than = λ bytes below s.
      let parts = below_parts s.front s.back (subst (AllBelowBase 256) s.parts below) in
      let front : length xs ≤ length s.front = first.than s.front parts.0 s.first in
      let back : length ys ≤ length s.back = second.than s.back parts.1 s.second in
      omega (arith, ap length s.parts, length-append s.front s.back, length-append xs ys);
}

value_no_longer : (v : ObjectValue) → NoLonger (value_octets v) (IsValue v)
value_no_longer (integer z) = element_no_longer 2 (integer_no_longer z)
value_no_longer (octet_string s) = element_no_longer 4 (exactly s)
value_no_longer null = element_no_longer 5 (exactly [])
value_no_longer (object_identifier numbers) = element_no_longer 6 (name_no_longer numbers)
value_no_longer (ip_address address) = grind (arith, element_no_longer, integer_no_longer, exactly, name_no_longer)
value_no_longer (counter n) = element_no_longer 65 (integer_no_longer (pos n))
value_no_longer (gauge n) = element_no_longer 66 (integer_no_longer (pos n))
value_no_longer (time_ticks n) = element_no_longer 67 (integer_no_longer (pos n))
value_no_longer (opaque s) = element_no_longer 68 (exactly s)

binding_no_longer : (b : VarBind) → NoLonger (binding_octets b) (IsBinding b)
unfolding binding_octets
binding_no_longer b = element_no_longer 48 (sequence_no_longer (element_no_longer 6 (name_no_longer b.name)) (value_no_longer b.value))

bindings_no_longer : (bs : List VarBind) → NoLonger (flat_map binding_octets bs) (AreBindings bs)
bindings_no_longer [] = exactly []
bindings_no_longer (b ∷ bs) = sequence_no_longer (binding_no_longer b) (bindings_no_longer bs)

-- r repeats the community and the bindings of m, and its numbers are no longer
record IsShorter (r m : SnmpMessage) : Type 0 where
  community : r.community ≡ m.community
  request : NoLonger (integer_octets r.request) (IsInteger m.request)
  status : NoLonger (integer_octets r.status) (IsInteger m.status)
  index : NoLonger (integer_octets r.index) (IsInteger m.index)
  bindings : r.bindings ≡ m.bindings

pdu_no_longer : (r m : SnmpMessage) → IsShorter r m → NoLonger (pdu_octets r) (IsPdu m)
unfolding pdu_octets numbers_octets
pdu_no_longer r m s = grind (arith, bindings_no_longer, append_assoc, sequence_no_longer, element_no_longer)

message_no_longer : (r m : SnmpMessage) → IsShorter r m → NoLonger (canonical r) (IsMessage m)
unfolding canonical
message_no_longer r m s =
    let version : NoLonger (0 ∷ []) (IsInteger (pos 0)) = record { than = λ bytes below i. some_octet (pos 0) bytes i } in
    let community : NoLonger r.community (λ content. content ≡ m.community) = rw s.community (exactly m.community) in
    element_no_longer 48
    (simp append_assoc
    (sequence_no_longer (element_no_longer 2 version)
    (sequence_no_longer (element_no_longer 4 community) (element_no_longer (tag_of r.kind) (pdu_no_longer r m s)))))

pub canonical_is_shortest : (m : SnmpMessage) (octets : List ℕ) → Spells m octets → length (canonical m) ≤ length octets
canonical_is_shortest m octets s =
    let same : IsShorter m m =
    record { community = refl; request = integer_no_longer m.request; status = integer_no_longer m.status; index = integer_no_longer m.index; bindings = refl } in
    (message_no_longer m m same).than octets s.octets s.message

pub response_no_longer : (m : SnmpMessage) (octets : List ℕ) (status index : ℕ) → Spells m octets → status < 128 → index < 128
    → length (canonical (response_to m status index)) ≤ length octets
response_no_longer m octets status index s small_status small_index =
    let shorter : IsShorter (response_to m status index) m =
    record { community = refl; request = integer_no_longer m.request; status = small_no_longer status m.status small_status; index = small_no_longer index m.index small_index; bindings = refl } in
    (message_no_longer (response_to m status index) m shorter).than octets s.octets s.message
