-- A binding takes seven octets at least, so a datagram has few of them.
use Rattle.std.proofs.Common.{◌≡◌, ℕ, pos, ◌+◌, ◌*◌, ◌<◌, ◌≤◌, List, [], ◌∷◌, length, ap, arith, length-append}
use Rattle.dms_wire.specs.Message.{ObjectValue, integer, octet_string, null, object_identifier, ip_address, counter, gauge, time_ticks, opaque, VarBind, SnmpMessage}
use Rattle.dms_wire_ber.specs.Length.{IsLength}
use Rattle.dms_wire_ber.specs.Element.{IsElement, ◌⨾◌}
use Rattle.dms_wire_ber.specs.Integer.{IsInteger}
use Rattle.dms_wire_ber.specs.ObjectIdentifier.{AreSubIdentifiers, IsName}
use Rattle.dms_wire.specs.Spelling.{IsAddress, IsValue, IsBinding, AreBindings, tag_of, IsPdu, IsMessage, Spells}
use Rattle.dms_wire.specs.Limits.{most_bindings}

-- what is spelled so has n octets or more
record AtLeast (n : ℕ) (Spelled : List ℕ → Type 0) : Type 0 where
  octets : (bytes : List ℕ) → Spelled bytes → n ≤ length bytes

anything : (P : List ℕ → Type 0) → AtLeast 0 P
anything P = record { octets = λ bytes p. omega arith }

length_octets : (len : List ℕ) (n : ℕ) → IsLength len n → 1 ≤ length len
length_octets len n form = grind arith

-- a tag and a length are two octets at least
element_octets : {Content : List ℕ → Type 0} (tag n : ℕ) → AtLeast n Content → AtLeast (n + 2) (IsElement tag Content)
element_octets {Content} tag n inside = record {
  octets = λ bytes e.
      let content : n ≤ length e.content = inside.octets e.content e.spelled in
      let len : 1 ≤ length e.len = length_octets e.len (length e.content) e.form in
      omega (arith, ap length e.parts, length-append e.len e.content);
}

sequence_octets : {First Second : List ℕ → Type 0} (m n : ℕ) → AtLeast m First → AtLeast n Second → AtLeast (m + n) (First ⨾ Second)
sequence_octets {First} {Second} m n first second = record {
  octets = λ bytes s.
      let front : m ≤ length s.front = first.octets s.front s.first in
      let back : n ≤ length s.back = second.octets s.back s.second in
      omega (arith, ap length s.parts, length-append s.front s.back);
}

sub_identifiers_octets : (ns bytes : List ℕ) → 0 < length ns → AreSubIdentifiers ns bytes → 1 ≤ length bytes
sub_identifiers_octets [] bytes some are = absurd (omega arith)
sub_identifiers_octets (n ∷ ns) bytes some are = grind (arith, length-append)

name_octets_some : (numbers : List ℕ) → AtLeast 1 (IsName numbers)
name_octets_some numbers = record { octets = λ bytes name. sub_identifiers_octets name.sub_identifiers bytes name.some name.spelled }

element_some : (tag : ℕ) (Content : List ℕ → Type 0) → AtLeast 2 (IsElement tag Content)
element_some tag Content = element_octets tag 0 (anything Content)

value_octets_some : (v : ObjectValue) → AtLeast 2 (IsValue v)
value_octets_some (integer z) = element_some 2 (IsInteger z)
value_octets_some (octet_string s) = element_some 4 (λ content. content ≡ s)
value_octets_some null = element_some 5 (λ content. content ≡ [])
value_octets_some (object_identifier numbers) = element_some 6 (IsName numbers)
value_octets_some (ip_address address) = element_some 64 (IsAddress address)
value_octets_some (counter n) = element_some 65 (IsInteger (pos n))
value_octets_some (gauge n) = element_some 66 (IsInteger (pos n))
value_octets_some (time_ticks n) = element_some 67 (IsInteger (pos n))
value_octets_some (opaque s) = element_some 68 (λ content. content ≡ s)

binding_octets_some : (b : VarBind) → AtLeast 7 (IsBinding b)
binding_octets_some b =
    element_octets 48 5 (sequence_octets 3 2 (element_octets 6 1 (name_octets_some b.name)) (value_octets_some b.value))

bindings_octets : (bs : List VarBind) → AtLeast (7 * length bs) (AreBindings bs)
bindings_octets [] = record { octets = λ bytes e. omega arith }
bindings_octets (b ∷ bs) = record {
  octets = λ bytes s. omega (arith, (sequence_octets 7 (7 * length bs) (binding_octets_some b) (bindings_octets bs)).octets bytes s);
}

-- the last member of a sequence with anything before it
after_first : {First Second : List ℕ → Type 0} (n : ℕ) → AtLeast n Second → AtLeast n (First ⨾ Second)
after_first {First} {Second} n second = record {
  octets = λ bytes s. omega (arith, (sequence_octets 0 n (anything First) second).octets bytes s);
}

-- an element with anything around its content
around : {Content : List ℕ → Type 0} (tag n : ℕ) → AtLeast n Content → AtLeast n (IsElement tag Content)
around {Content} tag n inside = record { octets = λ bytes e. omega (arith, (element_octets tag n inside).octets bytes e) }

pub few_bindings : (m : SnmpMessage) (octets : List ℕ) → Spells m octets → 7 * length m.bindings ≤ length octets
few_bindings m octets s =
    let n : ℕ = 7 * length m.bindings in
    let pdu : AtLeast n (IsPdu m) = after_first n (after_first n (after_first n (around 48 n (bindings_octets m.bindings)))) in
    let message : AtLeast n (IsMessage m) = around 48 n (after_first n (after_first n (around (tag_of m.kind) n pdu))) in
    message.octets octets s.message

-- so there are at most as many as the longest datagram has room for
pub most_bindings_read : (m : SnmpMessage) (octets : List ℕ) → Spells m octets → length m.bindings ≤ most_bindings
most_bindings_read m octets s = omega (arith, few_bindings m octets s, s.size)
