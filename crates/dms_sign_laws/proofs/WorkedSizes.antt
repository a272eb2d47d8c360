-- Replies of the bench sign that are too big for a datagram, computed.
use Rattle.std.proofs.Common.{◌≡◌, ◌∙◌, ℕ, zero, suc, ◌+◌, ◌≤◌, ◌<◌, List, [], ◌∷◌, ◌++◌, Some, refl, ap, replicate, length, length-append, arith}
use Rattle.std.specs.Prelude.{pos, codes}
use Rattle.std.specs.List.{flat_map}
use Rattle.dms_wire.specs.declared.error_status.ErrorStatus.TheVariants.{NoSuchName}
use Rattle.dms_wire.specs.declared.message.Kind.TheVariants.{GetNext}
use Rattle.dms_wire.specs.Message.{null, VarBind, SnmpMessage}
use Rattle.dms_wire_ber.specs.Length.{short_length}
use Rattle.dms_wire_ber.specs.Element.{element}
use Rattle.dms_wire_ber.specs.Integer.{integer_octets}
use Rattle.dms_wire_ber.specs.ObjectIdentifier.{name_octets}
use Rattle.dms_wire.specs.Canonical.{binding_octets, numbers_octets, pdu_octets, canonical}
use Rattle.dms_wire.specs.Response.{response_to}
use Rattle.dms_wire_ber.proofs.Shortest.{element_length, length-positive_more, length-positive_small}
use Rattle.dms_table.specs.Rows.{unused}
use Rattle.dms_mib.specs.Names.{name_of}
use Rattle.dms_mib_instances.specs.Objects.{instances}
use Rattle.dms_sign.specs.State.{SignState}
use Rattle.dms_sign.specs.Values.{value_at, value_after}
use Rattle.dms_sign.specs.Reply.{too_big}
use Rattle.dms_sign.specs.Requests.{Answer, refused, answer_of_any_size}
use Rattle.dms_sign.specs.Reply.{response_of, reply_to, on_message}
use Rattle.dms_sign_laws.proofs.BenchSign.{octets_of, bench_sign, with_changeable_rows, valid_row, datagram}

-- ---- long values

-- the digits of so many pieces of a datagram
abbrev times : ℕ → List ℕ → List ℕ
times count digits = flat_map (λ piece. piece) (replicate count digits)

-- changeable row 1 is a text of 512 octets
abbrev long_text : SignState
long_text = with_changeable_rows (valid_row (replicate 512 65) 200 ∷ unused ∷ [])

abbrev three_texts : List ℕ
three_texts = times 3 (codes "301406102b0601040189360402030508010303010500")

-- three times the text: tooBig, index 0
three_texts_are_too_big : (datagram long_text (codes "305a02010004067075626c6963a04d0201010201000201003042" ++ three_texts)).reply
    ≡ Some (octets_of (codes "305a02010004067075626c6963a24d0201010201010201003042" ++ three_texts))
unfolding datagram
three_texts_are_too_big = refl

-- ---- many names: the octets of so large a request-id are not computed, so sizes are counted

-- a number added to another one so many times
abbrev added : ℕ → ℕ → ℕ → ℕ
added zero n last = last
added (suc count) n last = n + added count n last

-- the size of a list of bindings of which the first are equal
equal_bindings : (count : ℕ) (binding : VarBind) (more : List VarBind)
    → length (flat_map binding_octets (replicate count binding ++ more)) ≡ added count (length (binding_octets binding)) (length (flat_map binding_octets more))
equal_bindings zero binding more = refl
equal_bindings (suc count) binding more = grind (arith, length-append, equal_bindings count binding more)

-- the size of an element whose content has this size
abbrev element_size : ℕ → ℕ
element_size n = suc (length (short_length n) + n)

abbrev message_size : SnmpMessage → ℕ → ℕ → ℕ
message_size m numbers bindings = element_size (length (element 2 (0 ∷ []) ++ element 4 m.community) + element_size (numbers + element_size bindings))

-- the size of the numbers of a message, by those of each
numbers_size : (m : SnmpMessage) (request status index : ℕ) → length (integer_octets m.request) ≡ request → length (integer_octets m.status) ≡ status
    → length (integer_octets m.index) ≡ index → length (numbers_octets m) ≡ element_size request + element_size status + element_size index
unfolding numbers_octets
numbers_size m request status index first second third = grind (arith, element_length, length-append)

-- four octets spell a number up to 2147483647
four_octets : (n : ℕ) → 8388608 ≤ n → n < 2147483648 → length (integer_octets (pos n)) ≡ 4
unfolding integer_octets
four_octets n large small = grind (arith, length-positive_more, length-positive_small)

-- the size of a message, by those of its numbers and of its bindings
size_of : (m : SnmpMessage) (numbers bindings : ℕ) → length (numbers_octets m) ≡ numbers → length (flat_map binding_octets m.bindings) ≡ bindings
    → length (canonical m) ≡ message_size m numbers bindings
unfolding canonical pdu_octets
size_of m numbers bindings these those = grind (arith, element_length, length-append)

abbrev named : List ℕ → VarBind
named name = record { name = name; value = null }

-- the name 1.3 203 times, 1.3.6.1 once, and 2.5
abbrev many_names : List VarBind
many_names = replicate 203 (named (1 ∷ 3 ∷ [])) ++ named (1 ∷ 3 ∷ 6 ∷ 1 ∷ []) ∷ named (2 ∷ 5 ∷ []) ∷ []

abbrev many : SnmpMessage
many = record { community = codes "public"; kind = GetNext; request = pos 2147483647; status = pos 0; index = pos 0; bindings = many_names }

-- the size of their list
many_octets : length (flat_map binding_octets many_names) ≡ 1437
unfolding element name_octets binding_octets
many_octets = equal_bindings 203 (named (1 ∷ 3 ∷ [])) (named (1 ∷ 3 ∷ 6 ∷ 1 ∷ []) ∷ named (2 ∷ 5 ∷ []) ∷ [])

-- the request has 1,472 octets
request_size : length (canonical many) ≡ 1472
unfolding element integer_octets
request_size = size_of many 12 1437 (numbers_size many 4 1 1 (four_octets 2147483647 (omega arith) (omega arith)) refl refl) many_octets

-- after 2.5 comes nothing: noSuchName, index 205
nothing_after_the_last : answer_of_any_size bench_sign many ≡ refused bench_sign many_names NoSuchName 205
unfolding instances name_of value_at value_after answer_of_any_size
nothing_after_the_last = refl

-- this would need 1,473 octets
refusal_size : length (canonical (response_of many (refused bench_sign many_names NoSuchName 205))) ≡ 1473
unfolding element integer_octets
refusal_size =
    size_of (response_of many (refused bench_sign many_names NoSuchName 205)) 13 1437
    (numbers_size (response_of many (refused bench_sign many_names NoSuchName 205)) 4 1 2 (four_octets 2147483647 (omega arith) (omega arith)) refl refl) many_octets

-- a reply of more octets is replaced
replaced : (m : SnmpMessage) (answer : Answer) → length (canonical (response_of m answer)) ≡ 1473 → reply_to m answer ≡ canonical (response_to m too_big 0)
unfolding reply_to
replaced m answer size = rw size refl

-- so it is: tooBig, index 0
many_names_are_too_big : (on_message bench_sign many).reply ≡ Some (canonical (response_to many too_big 0))
many_names_are_too_big = ap Some (ap (reply_to many) nothing_after_the_last ∙ replaced many (refused bench_sign many_names NoSuchName 205) refusal_size)

-- which has 1,472 octets
reply_size : length (canonical (response_to many too_big 0)) ≡ 1472
unfolding element integer_octets
reply_size =
    size_of (response_to many too_big 0) 12 1437
    (numbers_size (response_to many too_big 0) 4 1 1 (four_octets 2147483647 (omega arith) (omega arith)) refl refl) many_octets
