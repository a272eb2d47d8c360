-- Requests that set the fields of a row of which the numbers have one octet each.
use Rattle.std.proofs.Common.{◌≡◌, ℕ, pos, ◌+◌, ◌/◌, ◌%◌, ◌<◌, ◌≤◌, true, List, [], ◌∷◌, ◌++◌, length, refl, sym, ap, subst, ◌∙◌, arith, flat_map, append-nil, append_assoc, length-append}
use Rattle.dms_wire.specs.declared.message.Header.{Header}
use Rattle.dms_wire.specs.Message.{ObjectValue, VarBind, integer}
use Rattle.dms_wire_ber.specs.Length.{short_length}
use Rattle.dms_wire_ber.specs.Element.{element}
use Rattle.dms_wire_ber.specs.Integer.{integer_octets}
use Rattle.dms_wire_ber.specs.Limits.{longest_datagram}
use Rattle.dms_wire.specs.Canonical.{value_octets, binding_octets, canonical}
use Rattle.dms_wire.specs.Prefix.{message_size, prefix}
use Rattle.dms_wire.specs.View.{message_around}
use Rattle.dms_codes.specs.declared.row_id.RowId.{RowId}
use Rattle.dms_mib.specs.declared.column.Column.{Column}
use Rattle.dms_mib.specs.Names.{column_number}
use Rattle.dms_wire_ber.proofs.Shortest.{element_put, element_length}
use Rattle.dms_wire.proofs.Prefixes.{completed, computed}
use Rattle.dms_wire.proofs.ShortPrefixes.{request_is, two_octets}
use Rattle.dms_centre_jobs.specs.CodeView.{field_of, has_short_name}
use Rattle.dms_centre_jobs.proofs.ShortRequests.{cell_octets}

-- ---- a binding

-- the name in the binding of a cell, and what follows it
abbrev pub named : ℕ → RowId → List ℕ → List ℕ
named number row after = 6 ∷ 16 ∷ 43 ∷ 6 ∷ 1 ∷ 4 ∷ 1 ∷ 137 ∷ 54 ∷ 4 ∷ 2 ∷ 3 ∷ 5 ∷ 8 ∷ 1 ∷ number ∷ row.memory ∷ row.number ∷ after

name_element : (number : ℕ) (row : RowId)
    → element 6 (43 ∷ 6 ∷ 1 ∷ 4 ∷ 1 ∷ 137 ∷ 54 ∷ 4 ∷ 2 ∷ 3 ∷ 5 ∷ 8 ∷ 1 ∷ number ∷ row.memory ∷ row.number ∷ []) ≡ named number row []
unfolding element
name_element number row = refl

field_octets : (column : Column) (row : RowId) (number : ℕ) (value : ObjectValue) → number ≡ column_number column → has_short_name row ≡ true
    → binding_octets (field_of row column value) ≡ element 48 (named number row (value_octets value))
unfolding binding_octets
field_octets column row number value is short =
    ap (λ (name : List ℕ). element 48 (element 6 name ++ value_octets value)) (cell_octets column row number is short)
    ∙ ap (λ (name : List ℕ). element 48 (name ++ value_octets value)) (name_element number row)

count_named : (number : ℕ) (row : RowId) (value : List ℕ) (size : ℕ) → size ≡ length value → 18 + size ≡ length (named number row value)
count_named number row value size is = omega (arith, is)

-- how many octets it takes, with a value of so many
pub field_size : (column : Column) (row : RowId) (value : ObjectValue) (size : ℕ) → has_short_name row ≡ true → size ≡ length (value_octets value)
    → 1 + length (short_length (18 + size)) + (18 + size) ≡ length (binding_octets (field_of row column value))
field_size column row value size short is =
    let content : List ℕ = named (column_number column) row (value_octets value) in
    let count : 18 + size ≡ length content = count_named (column_number column) row (value_octets value) size is in
    let whole : 1 + length (short_length (18 + size)) + (18 + size) ≡ length (element 48 content) =
    omega (arith, element_length 48 content, ap (λ n. length (short_length n)) count, count) in
    whole ∙ sym (ap length (field_octets column row (column_number column) value refl short))

-- its parts, one after the other
pub field_put : (before : List ℕ) (column : Column) (row : RowId) (number size : ℕ) (value : ObjectValue) → number ≡ column_number column → has_short_name row ≡ true
    → size ≡ length (value_octets value)
    → ((before ++ 48 ∷ short_length (18 + size)) ++ named number row []) ++ value_octets value ≡ before ++ binding_octets (field_of row column value)
field_put before column row number size value is short size_is =
    append_assoc (before ++ 48 ∷ short_length (18 + size)) (named number row []) (value_octets value)
    ∙ element_put before 48 (18 + size) (named number row (value_octets value)) (count_named number row (value_octets value) size size_is)
    ∙ ap (λ (octets : List ℕ). before ++ octets) (sym (field_octets column row number value is short))

-- and the room that is left among them
pub field_room : (before : List ℕ) (column : Column) (row : RowId) (size : ℕ) (value : ObjectValue) (begun : List ℕ) → has_short_name row ≡ true
    → size ≡ length (value_octets value) → length before + length (binding_octets (field_of row column value)) ≤ longest_datagram
    → begun ≡ before ++ 48 ∷ short_length (18 + size) → length begun + (18 + size) ≤ longest_datagram
field_room before column row size value begun short is room begun_is =
    omega (arith, field_size column row value size short is, room, ap length begun_is, length-append before (48 ∷ short_length (18 + size)))

pub room_more : (before octets rest after : List ℕ) → after ≡ before ++ octets → length before + length (octets ++ rest) ≤ longest_datagram
    → length after + length rest ≤ longest_datagram
room_more before octets rest after is room = omega (arith, ap length is, length-append before octets, length-append octets rest, room)

pub room_one : (before octets rest : List ℕ) → length before + length (octets ++ rest) ≤ longest_datagram → length before + length octets ≤ longest_datagram
room_one before octets rest room = omega (arith, length-append octets rest, room)

pub sum_five : (a b c d e : List ℕ) → length (a ++ (b ++ (c ++ (d ++ (e ++ []))))) ≡ length a + length b + length c + length d + length e
sum_five a b c d e =
    omega (
      arith,
      length-append a (b ++ (c ++ (d ++ (e ++ [])))),
      length-append b (c ++ (d ++ (e ++ []))),
      length-append c (d ++ (e ++ [])),
      length-append d (e ++ []),
      length-append e [],
    )

-- ---- a binding of a number

short_element : (number : ℕ) (row : RowId) (n : ℕ) → element 48 (named number row (2 ∷ 1 ∷ n ∷ [])) ≡ 48 ∷ 21 ∷ named number row (2 ∷ 1 ∷ n ∷ [])
unfolding element
short_element number row n = refl

pub short_number : (column : Column) (row : RowId) (number n : ℕ) → number ≡ column_number column → has_short_name row ≡ true → n < 128
    → binding_octets (field_of row column (integer (pos n))) ≡ 48 ∷ 21 ∷ named number row (2 ∷ 1 ∷ n ∷ [])
short_number column row number n is short small =
    field_octets column row number (integer (pos n)) is short
    ∙ ap (λ (value : List ℕ). element 48 (named number row value)) (request_is (pos n) n refl small)
    ∙ short_element number row n

long_element : (number : ℕ) (row : RowId) (n : ℕ) → element 48 (named number row (2 ∷ 2 ∷ 0 ∷ n ∷ [])) ≡ 48 ∷ 22 ∷ named number row (2 ∷ 2 ∷ 0 ∷ n ∷ [])
unfolding element
long_element number row n = refl

long_value : (n : ℕ) → 128 ≤ n → n < 256 → element 2 (integer_octets (pos n)) ≡ 2 ∷ 2 ∷ 0 ∷ n ∷ []
unfolding integer_octets
long_value n large small =
    let high : n / 256 % 256 ≡ 0 = omega arith in
    let low : n % 256 ≡ n = omega arith in
    two_octets n large (omega arith) ∙ rw (high, low) refl

pub long_number : (column : Column) (row : RowId) (number n : ℕ) → number ≡ column_number column → has_short_name row ≡ true → 128 ≤ n → n < 256
    → binding_octets (field_of row column (integer (pos n))) ≡ 48 ∷ 22 ∷ named number row (2 ∷ 2 ∷ 0 ∷ n ∷ [])
long_number column row number n is short large small =
    field_octets column row number (integer (pos n)) is short
    ∙ ap (λ (value : List ℕ). element 48 (named number row value)) (long_value n large small)
    ∙ long_element number row n

-- ---- the request

pub ruleset field_steps = (length-append, append_assoc, append-nil)

pub size_around : (h : Header) (bindings : List VarBind) (size : ℕ) → size ≡ length (flat_map binding_octets bindings)
    → length (canonical (message_around h bindings)) ≤ longest_datagram → message_size (message_around h []) size ≤ longest_datagram
size_around h bindings size is fits =
    subst (λ n. n ≤ longest_datagram)
    (computed h bindings (flat_map binding_octets bindings) refl ∙ ap (λ n. message_size (message_around h []) n) (sym is)) fits

pub room_after : (h : Header) (bindings : List VarBind) (size : ℕ) (out : List ℕ) → size ≡ length (flat_map binding_octets bindings)
    → out ≡ prefix (message_around h []) size → length (canonical (message_around h bindings)) ≤ longest_datagram
    → length out + length (flat_map binding_octets bindings) ≤ longest_datagram
room_after h bindings size out is out_is fits =
    let octets = flat_map binding_octets bindings in
    let before = prefix (message_around h []) (length octets) in
    omega (
      arith,
      ap length (out_is ∙ ap (λ n. prefix (message_around h []) n) is),
      length-append before octets,
      ap length (completed h bindings octets refl),
      fits,
    )

pub put_around : (h : Header) (bindings : List VarBind) (size : ℕ) (out : List ℕ) → size ≡ length (flat_map binding_octets bindings)
    → out ≡ prefix (message_around h []) size → out ++ flat_map binding_octets bindings ≡ canonical (message_around h bindings)
put_around h bindings size out is out_is =
    ap (λ (before : List ℕ). before ++ flat_map binding_octets bindings) (out_is ∙ ap (λ n. prefix (message_around h []) n) is)
    ∙ completed h bindings (flat_map binding_octets bindings) refl
