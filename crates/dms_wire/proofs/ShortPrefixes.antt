-- What stands before the bindings of a message where each length is one octet.
use Rattle.std.proofs.Common.{◌≡◌, ℕ, ℤ, pos, ◌+◌, ◌/◌, ◌%◌, ◌^◌, ◌<◌, ◌≤◌, List, [], ◌∷◌, ◌++◌, length, refl, sym, ap, ◌∙◌, arith, append_assoc, length-append}
use Rattle.dms_wire.specs.Message.{VarBind, SnmpMessage, integer}
use Rattle.dms_wire.specs.Spelling.{tag_of}
use Rattle.dms_wire_ber.specs.Length.{short_length}
use Rattle.dms_wire_ber.specs.Element.{element}
use Rattle.dms_wire_ber.specs.Integer.{positive_octets, integer_octets}
use Rattle.dms_wire_ber.specs.ObjectIdentifier.{name_octets}
use Rattle.dms_wire.specs.Canonical.{value_octets, binding_octets, numbers_octets}
use Rattle.dms_wire.specs.Prefix.{pdu_size, content_size, prefix}
use Rattle.dms_wire_ber.proofs.Shortest.{element_length, length_one, natural_one, natural_two, short_length_small}

octet_of : (n : ℕ) → n < 128 → element 2 (integer_octets (pos n)) ≡ 2 ∷ 1 ∷ n ∷ []
unfolding integer_octets
octet_of n small = natural_one 2 n small

-- an error-status and an error-index of one octet
pub status_are : (m : SnmpMessage) (status index : ℕ) (rest : List ℕ) → m.status ≡ pos status → status < 128 → m.index ≡ pos index → index < 128
    → numbers_octets m ++ rest ≡ element 2 (integer_octets m.request) ++ 2 ∷ 1 ∷ status ∷ 2 ∷ 1 ∷ index ∷ rest
unfolding numbers_octets
status_are m status index rest s small i few =
    let request = element 2 (integer_octets m.request) in
    rw (s, i, octet_of status small, octet_of index few)
    (append_assoc (request ++ 2 ∷ 1 ∷ status ∷ []) (2 ∷ 1 ∷ index ∷ []) rest
    ∙ append_assoc request (2 ∷ 1 ∷ status ∷ []) (2 ∷ 1 ∷ index ∷ rest))

-- and the request-id before them
pub status_room : (numbers request : List ℕ) (status index : ℕ)
    → ((rest : List ℕ) → numbers ++ rest ≡ request ++ 2 ∷ 1 ∷ status ∷ 2 ∷ 1 ∷ index ∷ rest)
    → length numbers ≡ length request + 6
status_room numbers request status index are =
    omega (arith, ap length (are []), length-append numbers [], length-append request (2 ∷ 1 ∷ status ∷ 2 ∷ 1 ∷ index ∷ []))

-- a request-id of one octet
pub request_is : (request : ℤ) (octet : ℕ) → request ≡ pos octet → octet < 128 → element 2 (integer_octets request) ≡ 2 ∷ 1 ∷ octet ∷ []
request_is request octet e small = ap (λ z. element 2 (integer_octets z)) e ∙ octet_of octet small

-- and one of two
pub two_octets : (n : ℕ) → 128 ≤ n → n < 2 ^ 15 → element 2 (positive_octets n) ≡ 2 ∷ 2 ∷ (n / 256 % 256) ∷ (n % 256) ∷ []
two_octets n large small = natural_two 2 n large small

pub ruleset request_steps = (request_is, length-append, append_assoc)

-- what stands before the bindings
pub short_prefix : (m : SnmpMessage) (size pdu content : ℕ) → pdu ≡ pdu_size m size → content ≡ content_size m pdu → content < 128
    → prefix m size
    ≡ (48 ∷ content ∷ 2 ∷ 1 ∷ 0 ∷ 4 ∷ length m.community ∷ []) ++ (m.community ++ tag_of m.kind ∷ pdu ∷ (numbers_octets m ++ 48 ∷ size ∷ []))
unfolding element
short_prefix m size pdu content p c small =
    let whole = element_length 4 m.community in
    let head : short_length (content_size m (pdu_size m size)) ≡ content ∷ [] =
    ap (λ n. short_length (content_size m n)) (sym p) ∙ ap short_length (sym c) ∙ short_length_small content small in
    let middle : short_length (pdu_size m size) ≡ pdu ∷ [] = ap short_length (sym p) ∙ short_length_small pdu (omega arith) in
    let named : short_length (length m.community) ≡ length m.community ∷ [] = short_length_small (length m.community) (omega arith) in
    let last : short_length size ≡ size ∷ [] = short_length_small size (omega arith) in
    rw (head, middle, named, last)
    (ap (λ (rest : List ℕ). 48 ∷ content ∷ 2 ∷ 1 ∷ 0 ∷ 4 ∷ length m.community ∷ rest)
    (append_assoc m.community (tag_of m.kind ∷ pdu ∷ []) (numbers_octets m ++ 48 ∷ size ∷ [])))

-- the parts that such a message begins with
pub short_parts : (m : SnmpMessage) (size pdu content : ℕ) → pdu ≡ pdu_size m size → content ≡ content_size m pdu → content < 128
    → length m.community + length (numbers_octets m) < 128
short_parts m size pdu content p c small = omega (arith, element_length 4 m.community)

small_element : (tag : ℕ) (content : List ℕ) → length content < 128 → element tag content ≡ tag ∷ length content ∷ content
unfolding element
small_element tag content small = rw (short_length_small (length content) small) refl

-- a binding of which both lengths are one octet
pub short_binding : (b : VarBind) (content : ℕ) → content ≡ length (element 6 (name_octets b.name) ++ value_octets b.value) → content < 128
    → binding_octets b ≡ 48 ∷ content ∷ 6 ∷ length (name_octets b.name) ∷ (name_octets b.name ++ value_octets b.value)
unfolding binding_octets
short_binding b content e small =
    let name = name_octets b.name in
    let value = value_octets b.value in
    let sizes = length-append (element 6 name) value in
    let name_size = element_length 6 name in
    small_element 48 (element 6 name ++ value) (omega arith)
    ∙ ap (λ n. 48 ∷ n ∷ (element 6 name ++ value)) (sym e)
    ∙ ap (λ (octets : List ℕ). 48 ∷ content ∷ (octets ++ value)) (small_element 6 name (omega arith))

-- and one of a number of one octet
pub small_binding : (b : VarBind) (octet : ℕ) → b.value ≡ integer (pos octet) → octet < 128 → length (name_octets b.name) < 64
    → binding_octets b ≡ 48 ∷ (length (name_octets b.name) + 5) ∷ 6 ∷ length (name_octets b.name) ∷ (name_octets b.name ++ 2 ∷ 1 ∷ octet ∷ [])
small_binding b octet is small short =
    let name = name_octets b.name in
    let value : value_octets b.value ≡ 2 ∷ 1 ∷ octet ∷ [] = ap value_octets is ∙ octet_of octet small in
    let parts = length-append (element 6 name) (value_octets b.value) in
    let size : length name + 5 ≡ length (element 6 name ++ value_octets b.value) =
    omega (arith, parts, element_length 6 name, length_one (length name) (omega arith), ap length value) in
    short_binding b (length name + 5) size (omega arith) ∙ ap (λ (octets : List ℕ). 48 ∷ (length name + 5) ∷ 6 ∷ length name ∷ (name ++ octets)) value

pub small_binding_size : (b : VarBind) (octet : ℕ) → b.value ≡ integer (pos octet) → octet < 128 → length (name_octets b.name) < 64
    → length (binding_octets b) ≡ length (name_octets b.name) + 7
small_binding_size b octet is small short =
    omega (arith, ap length (small_binding b octet is small short), length-append (name_octets b.name) (2 ∷ 1 ∷ octet ∷ []))

-- how many octets elements with lengths of one octet take
pub ruleset short_sizes = (element_length, length_one, length-append)

-- and what such elements are
pub ruleset short_steps = (element_length, length_one, length-append, append_assoc)
