-- How many octets a message takes at most.
use Rattle.std.proofs.Common.{◌≡◌, ℕ, pos, ◌+◌, ◌*◌, ◌/◌, ◌%◌, ◌^◌, ◌<◌, ◌≤◌, List, [], ◌∷◌, ◌++◌, map, length, arith, flat_map, length-append}
use Rattle.std.proofs.lemmas.Bool.{cond_both}
use Rattle.std.proofs.lemmas.List.{length-map}
use Rattle.std.specs.Int.Digits.{digits_of, AllBelowBase}
use Rattle.std.proofs.lemmas.Int.Digits.{length-digits_of-le}
use Rattle.dms_wire.specs.Message.{VarBind, SnmpMessage}
use Rattle.dms_wire_ber.specs.ObjectIdentifier.{IsNameInLimits}
use Rattle.dms_wire.specs.Spelling.{tag_of}
use Rattle.dms_wire_ber.specs.Length.{short_length}
use Rattle.dms_wire_ber.specs.Element.{element}
use Rattle.dms_wire_ber.specs.Integer.{integer_octets}
use Rattle.dms_wire_ber.specs.ObjectIdentifier.{sub_identifier_octets, name_octets}
use Rattle.dms_wire.specs.Canonical.{value_octets, binding_octets, numbers_octets, pdu_octets, canonical}
use Rattle.dms_wire_ber.proofs.Shortest.{element_length, length-positive_le}
use Rattle.dms_wire_ber.specs.Limits.{longest_datagram}

length-short_length : (n : ℕ) → n < 65536 → length (short_length n) ≤ 3
length-short_length n small =
    let digits = length-digits_of-le 256 2 n (omega arith) small in
    cond_both _ (n ∷ []) ((128 + length (digits_of 256 n)) ∷ digits_of 256 n) (λ xs. length xs ≤ 3) (λ short. omega arith) (λ long. omega (arith, digits))

pub length-element : (tag : ℕ) (content : List ℕ) → length content < 65536 → length (element tag content) ≤ 4 + length content
length-element tag content small = omega (arith, element_length tag content, length-short_length (length content) small)

pub length-number : (n : ℕ) → n < 2 ^ 64 → length (integer_octets (pos n)) ≤ 9
unfolding integer_octets
length-number n small = length-positive_le n small

pub length-number_element : (n : ℕ) → n < 2 ^ 64 → length (element 2 (integer_octets (pos n))) ≤ 13
length-number_element n small =
    let e = length-number n small in
    omega (arith, e, length-element 2 (integer_octets (pos n)) (omega (arith, e)))

length-sub_identifier : (n : ℕ) → n < 2 ^ 32 → length (sub_identifier_octets n) ≤ 5
length-sub_identifier n small =
    let digits = length-digits_of-le 128 4 (n / 128) (omega arith) (omega arith) in
    omega (arith, digits, length-append (map (λ d. 128 + d) (digits_of 128 (n / 128))) ((n % 128) ∷ []), length-map (digits_of 128 (n / 128)) (λ d. 128 + d))

length-sub_identifiers : (ns : List ℕ) → AllBelowBase (2 ^ 32) ns → length (flat_map sub_identifier_octets ns) ≤ 5 * length ns
length-sub_identifiers [] small = omega arith
length-sub_identifiers (n ∷ ns) small =
    let first = length-sub_identifier n small.0 in
    let others = length-sub_identifiers ns small.1 in
    omega (arith, first, others, length-append (sub_identifier_octets n) (flat_map sub_identifier_octets ns))

length-name : (numbers : List ℕ) → IsNameInLimits numbers → length (name_octets numbers) ≤ 5 * length numbers
unfolding name_octets
length-name [] within = absurd within
length-name (a ∷ []) within = absurd within
length-name (a ∷ b ∷ ns) within = omega (arith, length-sub_identifiers ((40 * a + b) ∷ ns) (within.2, within.3))

-- a binding whose name has at most sixteen numbers
pub length-binding : (b : VarBind) → IsNameInLimits b.name → length b.name ≤ 16 → length (value_octets b.value) ≤ 520
    → length (binding_octets b) ≤ 88 + length (value_octets b.value)
unfolding binding_octets
length-binding b within few room =
    let numbers = length-name b.name within in
    let name = length-element 6 (name_octets b.name) (omega (arith, numbers)) in
    let both = length-append (element 6 (name_octets b.name)) (value_octets b.value) in
    omega (arith, numbers, name, both, length-element 48 (element 6 (name_octets b.name) ++ value_octets b.value) (omega (arith, numbers, name, both)))

-- the three numbers of a request
length-numbers : (m : SnmpMessage) (number : ℕ) → m.request ≡ pos number → number < 2 ^ 64 → m.status ≡ pos 0 → m.index ≡ pos 0 → length (numbers_octets m) ≤ 39
unfolding numbers_octets
length-numbers m number request small status index =
    rw (request, status, index)
    (let first = length-number_element number small in
    let zero = length-number_element 0 (omega arith) in
    let both = length-append (element 2 (integer_octets (pos number)) ++ element 2 (integer_octets (pos 0))) (element 2 (integer_octets (pos 0))) in
    omega (arith, first, zero, both, length-append (element 2 (integer_octets (pos number))) (element 2 (integer_octets (pos 0)))))

length-pdu : (m : SnmpMessage) → length (numbers_octets m) ≤ 39 → length (flat_map binding_octets m.bindings) ≤ 1200 → length (pdu_octets m) ≤ 1243
unfolding pdu_octets
length-pdu m numbers room =
    let list = length-element 48 (flat_map binding_octets m.bindings) (omega (arith, room)) in
    omega (arith, numbers, room, list, length-append (numbers_octets m) (element 48 (flat_map binding_octets m.bindings)))

-- a request of a short community, whose bindings take at most 1,200 octets
pub length-request : (m : SnmpMessage) (number : ℕ) → m.request ≡ pos number → number < 2 ^ 64 → m.status ≡ pos 0 → m.index ≡ pos 0
    → length m.community ≤ 32 → length (flat_map binding_octets m.bindings) ≤ 1200 → length (canonical m) ≤ longest_datagram
unfolding canonical
length-request m number request small status index short room =
    let content = length-pdu m (length-numbers m number request small status index) room in
    let version = length-element 2 (0 ∷ []) (omega arith) in
    let community = length-element 4 m.community (omega (arith, short)) in
    let pdu = length-element (tag_of m.kind) (pdu_octets m) (omega (arith, content)) in
    let first = length-append (element 2 (0 ∷ [])) (element 4 m.community) in
    let all = length-append (element 2 (0 ∷ []) ++ element 4 m.community) (element (tag_of m.kind) (pdu_octets m)) in
    omega (
      arith,
      content,
      version,
      community,
      pdu,
      first,
      all,
      length-element 48 (element 2 (0 ∷ []) ++ element 4 m.community ++ element (tag_of m.kind) (pdu_octets m))
          (omega (arith, content, version, community, pdu, first, all, short)),
      short,
    )
