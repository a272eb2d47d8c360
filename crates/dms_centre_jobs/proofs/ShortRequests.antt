-- Requests where each length is one octet.
use Rattle.std.proofs.Common.{◌≡◌, ℕ, pos, ◌+◌, ◌<◌, ◌≤◌, true, ◌&&◌, nat_lt, List, [], ◌∷◌, ◌++◌, length, refl, sym, ap, ◌∙◌, arith, flat_map, append-nil, append_assoc, length-append}
use Rattle.std.proofs.lemmas.Bool.Decides.{nat_tests}
use Rattle.dms_wire.specs.declared.message.Header.{Header}
use Rattle.dms_wire.specs.Message.{ObjectValue, VarBind, integer, octet_string, null}
use Rattle.dms_wire.specs.Spelling.{tag_of}
use Rattle.dms_wire_ber.specs.Element.{element}
use Rattle.dms_wire_ber.specs.Integer.{integer_octets}
use Rattle.dms_wire.specs.Canonical.{value_octets, binding_octets, numbers_octets, canonical}
use Rattle.dms_wire.specs.Prefix.{pdu_size, content_size, prefix}
use Rattle.dms_wire.specs.View.{message_around}
use Rattle.dms_wire_ber.specs.ObjectIdentifier.{name_octets}
use Rattle.dms_codes.specs.declared.row_id.RowId.{RowId}
use Rattle.dms_codes.specs.declared.status.Ask.{Ask}
use Rattle.dms_codes.specs.Status.{ask_number}
use Rattle.dms_mib.specs.declared.column.Column.{Column}
use Rattle.dms_mib.specs.declared.column.Column.TheVariants.{Status}
use Rattle.dms_mib.specs.Names.{column_number, cell_name, activate_message, activate_message_error}
use Rattle.dms_mib.proofs.SubIdentifiers.{one_octet}
use Rattle.dms_centre_jobs.specs.Steps.{reading, writing}
use Rattle.dms_wire_ber.proofs.Shortest.{element_length, short_length_small}
use Rattle.dms_wire.proofs.Prefixes.{completed}
use Rattle.dms_wire.proofs.ShortPrefixes.{short_prefix, short_binding, status_are, status_room, request_is}

pub ruleset short_steps = (length-append, append_assoc)

-- the header of a request of this number
pub record IsRequestHeader (h : Header) (number : ℕ) : Type 0 where
  pub request : h.request ≡ pos number
  pub status : h.status ≡ pos 0
  pub index : h.index ≡ pos 0

-- the request-id
abbrev pub request_octets : ℕ → List ℕ
request_octets number = element 2 (integer_octets (pos number))

numbers_are : (h : Header) (number : ℕ) (rest : List ℕ) → IsRequestHeader h number
    → numbers_octets (message_around h []) ++ rest ≡ request_octets number ++ 2 ∷ 1 ∷ 0 ∷ 2 ∷ 1 ∷ 0 ∷ rest
numbers_are h number rest is =
    status_are (message_around h []) 0 0 rest is.status (omega arith) is.index (omega arith)
    ∙ ap (λ z. element 2 (integer_octets z) ++ 2 ∷ 1 ∷ 0 ∷ 2 ∷ 1 ∷ 0 ∷ rest) is.request

numbers_size : (h : Header) (number : ℕ) → IsRequestHeader h number
    → length (numbers_octets (message_around h [])) ≡ length (request_octets number) + 6
numbers_size h number is =
    status_room (numbers_octets (message_around h [])) (request_octets number) 0 0 (λ rest. numbers_are h number rest is)

-- the sizes of the PDU's content and of the message's, around bindings of `size` octets
pub record AreSizes (h : Header) (number size inner outer : ℕ) : Type 0 where
  pub pdu : inner ≡ length (request_octets number) + 8 + size
  pub content : outer ≡ length h.community.now + 7 + inner
  pub short : outer < 128

pdu_is : (h : Header) (number size inner outer : ℕ) → IsRequestHeader h number → AreSizes h number size inner outer
    → inner ≡ pdu_size (message_around h []) size
pdu_is h number size inner outer is are =
    let last = ap length (short_length_small size (omega (arith, are.pdu, are.content, are.short))) in
    omega (arith, numbers_size h number is, last, are.pdu)

content_is : (h : Header) (number size inner outer : ℕ) → IsRequestHeader h number → AreSizes h number size inner outer
    → outer ≡ content_size (message_around h []) inner
content_is h number size inner outer is are =
    let last = ap length (short_length_small inner (omega (arith, are.content, are.short))) in
    let named = ap length (short_length_small (length h.community.now) (omega (arith, are.content, are.short))) in
    omega (arith, element_length 4 h.community.now, last, named, are.content)

-- such a request, part by part
pub short_request : (h : Header) (number inner outer : ℕ) (front back : List ℕ) (bindings : List VarBind) → IsRequestHeader h number
    → AreSizes h number (length front + length back) inner outer → front ++ back ≡ flat_map binding_octets bindings
    → ((((((48 ∷ outer ∷ 2 ∷ 1 ∷ 0 ∷ 4 ∷ length h.community.now ∷ []) ++ h.community.now) ++ tag_of h.kind ∷ inner ∷ []) ++ request_octets number)
    ++ 2 ∷ 1 ∷ 0 ∷ 2 ∷ 1 ∷ 0 ∷ 48 ∷ (length front + length back) ∷ []) ++ front) ++ back
    ≡ canonical (message_around h bindings)
short_request h number inner outer front back bindings is are spelled =
    let head : List ℕ = 48 ∷ outer ∷ 2 ∷ 1 ∷ 0 ∷ 4 ∷ length h.community.now ∷ [] in
    let size = length front + length back in
    let after : List ℕ = 48 ∷ size ∷ [] in
    let kind : List ℕ = tag_of h.kind ∷ inner ∷ [] in
    let request = request_octets number in
    let numbers : List ℕ = 2 ∷ 1 ∷ 0 ∷ 2 ∷ 1 ∷ 0 ∷ after in
    let before = short_prefix (message_around h []) size inner outer (pdu_is h number size inner outer is are) (content_is h number size inner outer is are) are.short in
    append_assoc ((((head ++ h.community.now) ++ kind) ++ request) ++ numbers) front back
    ∙ ap (λ (octets : List ℕ). octets ++ (front ++ back))
    (append_assoc ((head ++ h.community.now) ++ kind) request numbers
    ∙ append_assoc (head ++ h.community.now) kind (request ++ numbers)
    ∙ append_assoc head h.community.now (kind ++ (request ++ numbers))
    ∙ ap (λ (octets : List ℕ). head ++ (h.community.now ++ tag_of h.kind ∷ inner ∷ octets)) (sym (numbers_are h number after is))
    ∙ sym before
    ∙ ap (λ n. prefix (message_around h []) n) (sym (length-append front back)))
    ∙ completed h bindings (front ++ back) spelled

-- ---- the bindings

-- one binding where each length is one octet
short_named : (name content : List ℕ) (value : ObjectValue) (octets : List ℕ) (size : ℕ) → name_octets name ≡ content → value_octets value ≡ octets
    → size ≡ 2 + length content + length octets → size < 128
    → flat_map binding_octets (record { name = name; value = value } ∷ []) ≡ 48 ∷ size ∷ 6 ∷ length content ∷ (content ++ octets)
short_named name content value octets size named spelled sum small =
    let b : VarBind = record { name = name; value = value } in
    let count : length (name_octets name) ≡ length content = ap length named in
    let one = ap length (short_length_small (length (name_octets name)) (omega (arith, count, sum, small))) in
    let whole : size ≡ length (element 6 (name_octets name) ++ value_octets value) =
    omega (arith, length-append (element 6 (name_octets name)) (value_octets value), element_length 6 (name_octets name), one, count, ap length spelled, sum) in
    append-nil (binding_octets b) ∙ short_binding b size whole small ∙ rw (named, spelled) refl

null_octets : value_octets null ≡ 5 ∷ 0 ∷ []
unfolding element
null_octets = refl

column_short : (column : Column) → column_number column < 128
column_short column = grind arith

ask_short : (ask : Ask) → ask_number ask < 128
ask_short ask = grind arith

-- the content octets of a cell's name
pub cell_octets : (column : Column) (row : RowId) (number : ℕ) → number ≡ column_number column → (nat_lt row.memory 128 && nat_lt row.number 128) ≡ true
    → name_octets (cell_name column row) ≡ 43 ∷ 6 ∷ 1 ∷ 4 ∷ 1 ∷ 137 ∷ 54 ∷ 4 ∷ 2 ∷ 3 ∷ 5 ∷ 8 ∷ 1 ∷ number ∷ row.memory ∷ row.number ∷ []
unfolding name_octets
cell_octets column row number is short =
    let memory : row.memory < 128 = grind (arith, nat_tests, short) in
    let last : row.number < 128 = grind (arith, nat_tests, short) in
    rw (is, one_octet (column_number column) (column_short column), one_octet row.memory memory, one_octet row.number last) refl

pub get_octets : (column : Column) (row : RowId) (number : ℕ) → number ≡ column_number column → (nat_lt row.memory 128 && nat_lt row.number 128) ≡ true
    → 48 ∷ 20 ∷ 6 ∷ 16 ∷ 43 ∷ 6 ∷ 1 ∷ 4 ∷ 1 ∷ 137 ∷ 54 ∷ 4 ∷ 2 ∷ 3 ∷ 5 ∷ 8 ∷ 1 ∷ number ∷ row.memory ∷ row.number ∷ 5 ∷ 0 ∷ []
    ≡ flat_map binding_octets (reading (cell_name column row))
get_octets column row number is short = sym (short_named _ _ null _ 20 (cell_octets column row number is short) null_octets refl (omega arith))

pub set_octets : (row : RowId) (ask : Ask) (number : ℕ) → number ≡ ask_number ask → (nat_lt row.memory 128 && nat_lt row.number 128) ≡ true
    → 48 ∷ 21 ∷ 6 ∷ 16 ∷ 43 ∷ 6 ∷ 1 ∷ 4 ∷ 1 ∷ 137 ∷ 54 ∷ 4 ∷ 2 ∷ 3 ∷ 5 ∷ 8 ∷ 1 ∷ 9 ∷ row.memory ∷ row.number ∷ 2 ∷ 1 ∷ number ∷ []
    ≡ flat_map binding_octets (writing (cell_name Status row) (integer (pos (ask_number ask))))
set_octets row ask number is short =
    let value : value_octets (integer (pos (ask_number ask))) ≡ 2 ∷ 1 ∷ number ∷ [] =
    request_is (pos (ask_number ask)) (ask_number ask) refl (ask_short ask) ∙ ap (λ (n : ℕ). 2 ∷ 1 ∷ n ∷ []) (sym is) in
    sym (short_named _ _ (integer (pos (ask_number ask))) _ 21 (cell_octets Status row 9 refl short) value refl (omega arith))

code_octets : (code : List ℕ) → length code ≡ 12 → value_octets (octet_string code) ≡ 4 ∷ 12 ∷ code
unfolding element
code_octets code twelve = rw twelve refl

activation_name : name_octets activate_message ≡ 43 ∷ 6 ∷ 1 ∷ 4 ∷ 1 ∷ 137 ∷ 54 ∷ 4 ∷ 2 ∷ 3 ∷ 6 ∷ 3 ∷ 0 ∷ []
unfolding name_octets
activation_name = refl

pub activation_octets : (code : List ℕ) → length code ≡ 12
    → 48 ∷ 29 ∷ 6 ∷ 13 ∷ 43 ∷ 6 ∷ 1 ∷ 4 ∷ 1 ∷ 137 ∷ 54 ∷ 4 ∷ 2 ∷ 3 ∷ 6 ∷ 3 ∷ 0 ∷ 4 ∷ 12 ∷ code
    ≡ flat_map binding_octets (writing activate_message (octet_string code))
activation_octets code twelve = sym (short_named _ _ (octet_string code) _ 29 activation_name (code_octets code twelve) (omega (arith, twelve)) (omega arith))

cause_name : name_octets activate_message_error ≡ 43 ∷ 6 ∷ 1 ∷ 4 ∷ 1 ∷ 137 ∷ 54 ∷ 4 ∷ 2 ∷ 3 ∷ 6 ∷ 17 ∷ 0 ∷ []
unfolding name_octets
cause_name = refl

pub cause_octets : 48 ∷ 17 ∷ 6 ∷ 13 ∷ 43 ∷ 6 ∷ 1 ∷ 4 ∷ 1 ∷ 137 ∷ 54 ∷ 4 ∷ 2 ∷ 3 ∷ 6 ∷ 17 ∷ 0 ∷ 5 ∷ 0 ∷ [] ≡ flat_map binding_octets (reading activate_message_error)
cause_octets = sym (short_named _ _ null _ 17 cause_name null_octets refl (omega arith))
