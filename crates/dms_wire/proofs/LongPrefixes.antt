-- What stands before the bindings of a message where each length is three octets, but that of the community one.
use Rattle.std.proofs.Common.{◌≡◌, ℕ, ◌+◌, ◌/◌, ◌%◌, ◌<◌, ◌≤◌, List, [], ◌∷◌, ◌++◌, length, refl, sym, ap, ◌∙◌, arith, append_assoc, length-append}
use Rattle.dms_wire.specs.Message.{SnmpMessage}
use Rattle.dms_wire.specs.Spelling.{tag_of}
use Rattle.dms_wire_ber.specs.Length.{short_length}
use Rattle.dms_wire_ber.specs.Element.{element}
use Rattle.dms_wire.specs.Canonical.{numbers_octets}
use Rattle.dms_wire.specs.Prefix.{pdu_size, content_size, prefix}
use Rattle.dms_wire_ber.proofs.Shortest.{element_length, length_one, length_three, short_length_small, short_length_two}

-- what stands before the bindings
pub long_prefix : (m : SnmpMessage) (size pdu content : ℕ) → pdu ≡ pdu_size m size → content ≡ content_size m pdu → 256 ≤ size → content < 65536
    → length m.community < 128
    → prefix m size
    ≡ (48 ∷ 130 ∷ (content / 256) ∷ (content % 256) ∷ 2 ∷ 1 ∷ 0 ∷ 4 ∷ length m.community ∷ [])
    ++ (m.community ++ tag_of m.kind ∷ 130 ∷ (pdu / 256) ∷ (pdu % 256) ∷ (numbers_octets m ++ 48 ∷ 130 ∷ (size / 256) ∷ (size % 256) ∷ []))
unfolding element
long_prefix m size pdu content p c large small short =
    let head : short_length (content_size m (pdu_size m size)) ≡ 130 ∷ (content / 256) ∷ (content % 256) ∷ [] =
    ap (λ n. short_length (content_size m n)) (sym p) ∙ ap short_length (sym c) ∙ short_length_two content (omega arith) small in
    let middle : short_length (pdu_size m size) ≡ 130 ∷ (pdu / 256) ∷ (pdu % 256) ∷ [] = ap short_length (sym p) ∙ short_length_two pdu (omega arith) (omega arith) in
    let named : short_length (length m.community) ≡ length m.community ∷ [] = short_length_small (length m.community) short in
    let last : short_length size ≡ 130 ∷ (size / 256) ∷ (size % 256) ∷ [] = short_length_two size large (omega arith) in
    rw (head, middle, named, last)
    (ap (λ (rest : List ℕ). 48 ∷ 130 ∷ (content / 256) ∷ (content % 256) ∷ 2 ∷ 1 ∷ 0 ∷ 4 ∷ length m.community ∷ rest)
    (append_assoc m.community (tag_of m.kind ∷ 130 ∷ (pdu / 256) ∷ (pdu % 256) ∷ []) (numbers_octets m ++ 48 ∷ 130 ∷ (size / 256) ∷ (size % 256) ∷ [])))

-- the parts that such a message begins with
pub long_parts : (m : SnmpMessage) (size pdu content : ℕ) → pdu ≡ pdu_size m size → content ≡ content_size m pdu → length m.community + length (numbers_octets m) + size ≤ content
long_parts m size pdu content p c = omega (arith, element_length 4 m.community)

-- how many octets elements with lengths of three octets take, and of one
pub ruleset long_sizes = (element_length, length_one, length_three, length-append)
