-- A message's octets are those before its bindings and those of its bindings.
use Rattle.std.proofs.Common.{◌≡◌, ℕ, ◌+◌, ◌<◌, ◌≤◌, Bool, true, false, cond, nat_le, List, [], ◌∷◌, ◌++◌, length, Option, Some, None, refl, sym, ap, ◌∙◌, arith, flat_map, append_assoc, length-append}
use Rattle.dms_wire.specs.declared.message.Header.{Header}
use Rattle.dms_wire.specs.declared.message.MessageParts.{MessageParts}
use Rattle.dms_wire.specs.Message.{VarBind, SnmpMessage}
use Rattle.dms_wire.specs.Spelling.{tag_of}
use Rattle.dms_wire_ber.specs.Length.{short_length}
use Rattle.dms_wire_ber.specs.Element.{element}
use Rattle.dms_wire.specs.Canonical.{binding_octets, numbers_octets, pdu_octets, canonical}
use Rattle.dms_wire.specs.View.{message_around}
use Rattle.dms_wire.specs.Written.{octets_of_bindings}
use Rattle.dms_wire.specs.Prefix.{element_size, pdu_size, content_size, message_size, pdu_prefix, message_prefix, prefix}
use Rattle.dms_wire_ber.proofs.Shortest.{element_put, element_length}
use Rattle.dms_wire_ber.specs.Limits.{longest_datagram}

-- the octets are those of the message's bindings
abbrev pub AreBindingsOf : SnmpMessage → List ℕ → Type 0
AreBindingsOf m octets = octets ≡ flat_map binding_octets m.bindings

size_of_element : (tag : ℕ) (content : List ℕ) → length (element tag content) ≡ element_size (length content)
size_of_element tag content = omega (arith, element_length tag content)

size_of_pdu : (m : SnmpMessage) (octets : List ℕ) → AreBindingsOf m octets → length (pdu_octets m) ≡ pdu_size m (length octets)
unfolding pdu_octets
size_of_pdu m octets are = grind (arith, length-append, flat_map, size_of_element)

-- the content of a message
abbrev inside : SnmpMessage → List ℕ
inside m = element 2 (0 ∷ []) ++ element 4 m.community ++ element (tag_of m.kind) (pdu_octets m)

size_of_version : length (element 2 (0 ∷ [])) ≡ 3
unfolding element
size_of_version = refl

size_of_inside : (m : SnmpMessage) (octets : List ℕ) → AreBindingsOf m octets → length (inside m) ≡ content_size m (pdu_size m (length octets))
size_of_inside m octets are = grind (arith, size_of_version, size_of_element, size_of_pdu, length-append)

size_of_message : (m : SnmpMessage) (octets : List ℕ) → AreBindingsOf m octets → length (canonical m) ≡ message_size m (length octets)
unfolding canonical
size_of_message m octets are = size_of_element 48 (inside m) ∙ ap element_size (size_of_inside m octets are)

prefix_of_pdu : (m : SnmpMessage) (octets : List ℕ) → AreBindingsOf m octets → pdu_prefix m (length octets) ++ octets ≡ pdu_octets m
unfolding pdu_octets
prefix_of_pdu m octets are = element_put (numbers_octets m) 48 (length octets) octets refl ∙ ap (λ octets. numbers_octets m ++ element 48 octets) are

prefix_of_inside : (m : SnmpMessage) (octets : List ℕ) → AreBindingsOf m octets → message_prefix m (pdu_size m (length octets)) ++ pdu_octets m ≡ inside m
prefix_of_inside m octets are = grind (arith, element_put, size_of_pdu)

prefix_of_message : (m : SnmpMessage) (octets : List ℕ) → AreBindingsOf m octets → prefix m (length octets) ++ octets ≡ canonical m
unfolding canonical
prefix_of_message m octets are =
    let head : List ℕ = 48 ∷ short_length (content_size m (pdu_size m (length octets))) in
    let before : List ℕ = message_prefix m (pdu_size m (length octets)) in
    append_assoc (head ++ before) (pdu_prefix m (length octets)) octets
    ∙ ap (λ pdu. (head ++ before) ++ pdu) (prefix_of_pdu m octets are)
    ∙ append_assoc head before (pdu_octets m)
    ∙ ap (λ inside. head ++ inside) (prefix_of_inside m octets are)
    ∙ element_put [] 48 (content_size m (pdu_size m (length octets))) (inside m) (sym (size_of_inside m octets are))

same_prefix : (h : Header) (bindings : List VarBind) (size : ℕ) → prefix (message_around h []) size ≡ prefix (message_around h bindings) size
unfolding numbers_octets
same_prefix h bindings size = refl

same_size : (h : Header) (bindings : List VarBind) (size : ℕ) → message_size (message_around h []) size ≡ message_size (message_around h bindings) size
unfolding numbers_octets
same_size h bindings size = refl

-- the size that was computed before the bindings were written
pub computed : (h : Header) (bindings : List VarBind) (octets : List ℕ) → octets ≡ flat_map binding_octets bindings
    → length (canonical (message_around h bindings)) ≡ message_size (message_around h []) (length octets)
computed h bindings octets are = size_of_message (message_around h bindings) octets are ∙ sym (same_size h bindings (length octets))

-- what was written before the bindings, and they
pub completed : (h : Header) (bindings : List VarBind) (octets : List ℕ) → octets ≡ flat_map binding_octets bindings
    → prefix (message_around h []) (length octets) ++ octets ≡ canonical (message_around h bindings)
completed h bindings octets are =
    ap (λ before. before ++ octets) (same_prefix h bindings (length octets)) ∙ prefix_of_message (message_around h bindings) octets are

-- bindings alone are no longer than the message
pub bindings_alone : (m : SnmpMessage) → length (flat_map binding_octets m.bindings) ≤ length (canonical m)
bindings_alone m = omega (arith, size_of_message m (flat_map binding_octets m.bindings) refl)

-- octets that were kept, or too many to keep
kept : (test : Bool) (xs octets : List ℕ) → nat_le (length octets) longest_datagram ≡ test → Some xs ≡ cond test (Some octets) None → octets ≡ xs
kept test xs octets is e = grind arith

pub are_kept : (too_big : Bool) (xs : List ℕ) (now : Option (List ℕ)) (bindings : List VarBind) → too_big ≡ false → cond too_big None (Some xs) ≡ now
    → now ≡ octets_of_bindings bindings → xs ≡ flat_map binding_octets bindings
are_kept too_big xs now bindings is view e = grind arith

pub are_too_big : (too_big : Bool) (xs : List ℕ) (now : Option (List ℕ)) (bindings : List VarBind) → too_big ≡ true → cond too_big None (Some xs) ≡ now
    → now ≡ octets_of_bindings bindings → longest_datagram < length (flat_map binding_octets bindings)
are_too_big too_big xs now bindings is view e = grind arith

-- what a message to write says beside its bindings
abbrev pub header_of : MessageParts → Header
header_of p = record { community = p.community; kind = p.kind; request = p.request; status = p.status; index = p.index }

-- octets before the bindings written, one part after the other
pub ruleset prefix_steps = (element_length, length-append, append_assoc)
