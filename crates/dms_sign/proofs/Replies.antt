-- A reply is a Response to the request that came; the answer to a SET says little, and fits a datagram.
use Rattle.std.proofs.Common.{◌≡◌, ℕ, suc, ◌+◌, ◌<◌, ◌≤◌, ◌&&◌, Bool, true, cond, List, [], ◌∷◌, ◌++◌, length, Option, Some, Result, refl, ap, arith}
use Rattle.std.specs.Prelude.{nat_le, unwrap_or, filter_map, find}
use Rattle.std.specs.List.{AllByRecursion, position_from}
use Rattle.std.proofs.lemmas.Bool.{and_parts}
use Rattle.std.proofs.lemmas.List.{length-append}
use Rattle.dms_wire.specs.declared.message.Kind.{Kind}
use Rattle.dms_wire.specs.declared.message.Kind.TheVariants.{Set}
use Rattle.dms_wire.specs.declared.error_status.ErrorStatus.{ErrorStatus}
use Rattle.dms_wire.specs.declared.error_status.ErrorStatus.TheVariants.{NoError}
use Rattle.dms_wire.specs.ErrorStatus.{error_status_number}
use Rattle.dms_wire.specs.Message.{VarBind, SnmpMessage}
use Rattle.dms_wire.specs.MessageOf.{message_of}
use Rattle.dms_wire.specs.Spelling.{Spells}
use Rattle.dms_wire.specs.Canonical.{canonical}
use Rattle.dms_wire.specs.Response.{response_to}
use Rattle.dms_wire.proofs.MessageOfLaws.{read_is_spelled}
use Rattle.dms_wire.proofs.ShorterSpellings.{response_no_longer}
use Rattle.dms_table.specs.declared.activation.Cause.{Cause}
use Rattle.dms_table.specs.Rows.{TableModel, asked}
use Rattle.dms_codes.specs.Codes.{activation_of}
use Rattle.dms_table.specs.Activation.{ShownModel, decided}
use Rattle.dms_face.proofs.Lists.{all_append}
use Rattle.dms_sign.specs.State.{SignState}
use Rattle.dms_sign_access.specs.Access.{Write, SetNumber, SetCode, SetField, AskRow, Activate, SetRemaining, is_command}
use Rattle.dms_sign.specs.SetRequest.{SetCause, is_command_at, cause_if, causes_at, causes_after, causes, assigned}
use Rattle.dms_wire_ber.specs.Limits.{longest_datagram}
use Rattle.dms_sign.specs.Reply.{too_big}
use Rattle.dms_sign.specs.Requests.{Answer, refused, granted, as_decided, as_asked, commanded, commanded_if, with_remaining, command_index, writes_of, set_unless, answer_by, answer_of_any_size}
use Rattle.dms_sign.specs.Reply.{response_of, reply_to, is_heard, heard, dropped, on_message_if, received}
use Rattle.dms_sign.specs.Promises.{IsResponseTo, IsReplyTo}

-- ---- a reply names its request

response_either : (m : SnmpMessage) (a : Answer) (b : Bool)
    → IsResponseTo m (canonical (cond b (response_of m a) (response_to m too_big 0)))
response_either m a b = grind arith

responds : (m : SnmpMessage) (a : Answer) → IsResponseTo m (reply_to m a)
unfolding reply_to
responds m a = response_either m a (nat_le (length (canonical (response_of m a))) longest_datagram)

asks_by : (powered : Bool) (b c : Bool) → (powered && b && c) ≡ true → b ≡ true
asks_by powered b c h = (and_parts powered b (and_parts (powered && b) c h).0).1

heard_reply : (s : SignState) (datagram reply : List ℕ) (m : SnmpMessage) (b : Bool) → message_of datagram ≡ Some m → is_heard s m ≡ b
    → (cond b (heard s m) (dropped s)).reply ≡ Some reply → IsReplyTo datagram reply
heard_reply s datagram reply m b spelled is e = grind (arith, asks_by, responds)

message_reply : (s : SignState) (datagram reply : List ℕ) (o : Option SnmpMessage) → message_of datagram ≡ o
    → (on_message_if s o).reply ≡ Some reply → IsReplyTo datagram reply
message_reply s datagram reply o spelled e = grind (arith, heard_reply)

pub names_its_request : (s : SignState) (datagram reply : List ℕ) → (received s datagram).reply ≡ Some reply → IsReplyTo datagram reply
unfolding received
names_its_request s datagram reply e = message_reply s datagram reply (message_of datagram) refl e

-- ---- what is answered to a SET

-- it repeats the bindings, and its status and index are small
pub record IsSetAnswer (bindings : List VarBind) (a : Answer) : Type 0 where
  pub echo : a.bindings ≡ bindings
  pub status : error_status_number a.status ≤ 5
  pub index : a.index ≤ length bindings
  pub success : a.status ≡ NoError → a.index ≡ 0

pub record IsCause (most : ℕ) (cause : SetCause) : Type 0 where
  pub fails : cause.status ≡ NoError → ⊥
  pub status : error_status_number cause.status ≤ 5
  pub index : cause.index ≤ most

refused_is : (s : SignState) (bindings : List VarBind) (status : ErrorStatus) (index : ℕ) → (status ≡ NoError → ⊥) → error_status_number status ≤ 5 → index ≤ length bindings
    → IsSetAnswer bindings (refused s bindings status index)
refused_is s bindings status index fails small within = record { echo = refl; status = small; index = within; success = λ none. absurd (fails none) }

granted_is : (s : SignState) (bindings : List VarBind) → IsSetAnswer bindings (granted s bindings)
granted_is s bindings = record { echo = refl; status = omega arith; index = omega arith; success = λ none. refl }

decided_is : (old new : SignState) (bindings : List VarBind) (index : ℕ) (octets : List ℕ) (r : Result ShownModel Cause) → index ≤ length bindings
    → IsSetAnswer bindings (as_decided old new bindings index octets r)
decided_is old new bindings index octets r within = grind arith

asked_is : (old new : SignState) (bindings : List VarBind) (index : ℕ) (o : Option TableModel) → index ≤ length bindings
    → IsSetAnswer bindings (as_asked old new bindings index o)
asked_is old new bindings index o within = grind arith

commanded_is : (old new : SignState) (bindings : List VarBind) (index : ℕ) (write : Write) → index ≤ length bindings
    → IsSetAnswer bindings (commanded old new bindings index write)
commanded_is old new bindings index (AskRow id ask) within = asked_is old new bindings index (asked new.table id ask) within
commanded_is old new bindings index (Activate octets) within =
    decided_is old new bindings index octets (decided new.config.face new.settings.defaults new.table new.shown (activation_of old.table.order octets)) within
commanded_is old new bindings index (SetRemaining minutes) within = granted_is (with_remaining new minutes) bindings
commanded_is old new bindings index (SetNumber object number) within = granted_is new bindings
commanded_is old new bindings index (SetCode object octets) within = granted_is new bindings
commanded_is old new bindings index (SetField id field) within = granted_is new bindings

commanded_if_is : (old new : SignState) (bindings : List VarBind) (index : ℕ) (o : Option Write) → index ≤ length bindings
    → IsSetAnswer bindings (commanded_if old new bindings index o)
commanded_if_is old new bindings index o within = grind (arith, granted_is, commanded_is)

-- ---- places and causes

position_if : (i n : ℕ) (b : Bool) (o : Option ℕ) → unwrap_or o 0 ≤ i + 1 + n → unwrap_or (cond b (Some (i + 1)) o) 0 ≤ i + suc n
position_if i n b o rest = grind arith

position_within : {A : Type 0} (p : A → Bool) (i : ℕ) (xs : List A) → unwrap_or (position_from p (i + 1) xs) 0 ≤ i + length xs
position_within p i [] = omega arith
position_within p i (x ∷ xs) = position_if i (length xs) (p x) (position_from p (i + 1 + 1) xs) (position_within p (i + 1) xs)

-- tests have statuses of errors
abbrev IsTest : Bool × ErrorStatus → Type 0
IsTest test = (test.1 ≡ NoError → ⊥) × (error_status_number test.1 ≤ 5)

held_if : (most index : ℕ) (b : Bool) (status : ErrorStatus) (tests : List (Bool × ErrorStatus)) → index ≤ most → (status ≡ NoError → ⊥) → error_status_number status ≤ 5
    → AllByRecursion (IsCause most) (filter_map (cause_if index) tests)
    → AllByRecursion (IsCause most) (filter_map (cause_if index) ((b, status) ∷ tests))
held_if most index b status tests within fails small rest = grind arith

held : (most index : ℕ) (tests : List (Bool × ErrorStatus)) → index ≤ most → AllByRecursion IsTest tests
    → AllByRecursion (IsCause most) (filter_map (cause_if index) tests)
held most index [] within each = tt
held most index (test ∷ tests) within each = held_if most index test.0 test.1 tests within each.0.0 each.0.1 (held most index tests within each.1)

are_causes_at : (s : SignState) (writing : Bool) (before : List VarBind) (binding : VarBind) (most : ℕ) → length before + 1 ≤ most
    → AllByRecursion (IsCause most) (causes_at s writing before binding)
are_causes_at s writing before binding most within = grind arith

are_causes_after : (s : SignState) (writing : Bool) (before bindings : List VarBind) (most : ℕ) → length before + length bindings ≤ most
    → AllByRecursion (IsCause most) (causes_after s writing before bindings)
are_causes_after s writing before [] most within = tt
are_causes_after s writing before (binding ∷ more) most within = grind (arith, all_append, are_causes_at, length-append, are_causes_after s writing (before ++ binding ∷ []) more most (omega (arith, length-append before (binding ∷ []))))

pub are_causes : (s : SignState) (writing : Bool) (bindings : List VarBind) → AllByRecursion (IsCause (length bindings)) (causes s writing bindings)
unfolding causes
are_causes s writing bindings = are_causes_after s writing [] bindings (length bindings) (omega arith)

-- ---- the answer to a SET

pub set_unless_is : (s : SignState) (bindings : List VarBind) (found : List SetCause) → AllByRecursion (IsCause (length bindings)) found
    → IsSetAnswer bindings (set_unless s bindings found)
set_unless_is s bindings [] each =
    let place : command_index s bindings ≤ 0 + length bindings = position_within (is_command_at s) 0 bindings in
    commanded_if_is s (assigned s (writes_of s bindings)) bindings (command_index s bindings) (find is_command (writes_of s bindings)) (omega arith)
set_unless_is s bindings (cause ∷ more) each = refused_is s bindings cause.status cause.index each.0.fails each.0.status each.0.index

answer_by_is : (s : SignState) (m : SnmpMessage) (kind : Kind) → kind ≡ Set → IsSetAnswer m.bindings (answer_by s m kind)
answer_by_is s m kind is = grind (arith, set_unless_is, are_causes)

pub is_set_answer : (s : SignState) (m : SnmpMessage) → m.kind ≡ Set → IsSetAnswer m.bindings (answer_of_any_size s m)
unfolding answer_of_any_size
is_set_answer s m is = answer_by_is s m m.kind is

-- ---- its reply is not replaced

reply_if : (m : SnmpMessage) (a : Answer) → length (canonical (response_of m a)) ≤ 1472 → reply_to m a ≡ canonical (response_of m a)
unfolding reply_to
reply_if m a fits = grind arith

echoes : (m : SnmpMessage) (a : Answer) → a.bindings ≡ m.bindings → response_of m a ≡ response_to m (error_status_number a.status) a.index
echoes m a same = ap (λ bindings. record (response_to m (error_status_number a.status) a.index) { bindings = bindings }) same

not_replaced : (m : SnmpMessage) (datagram : List ℕ) (a : Answer) → Spells m datagram → IsSetAnswer m.bindings a → a.index < 128
    → reply_to m a ≡ canonical (response_to m (error_status_number a.status) a.index)
not_replaced m datagram a spells is small = grind (arith, response_no_longer, echoes, reply_if)

pub one_binding_fits : (s : SignState) (m : SnmpMessage) (datagram : List ℕ) → message_of datagram ≡ Some m → m.kind ≡ Set → length m.bindings ≡ 1
    → reply_to m (answer_of_any_size s m) ≡ canonical (response_to m (error_status_number (answer_of_any_size s m).status) (answer_of_any_size s m).index)
one_binding_fits s m datagram spelled is one =
    let answer : IsSetAnswer m.bindings (answer_of_any_size s m) = is_set_answer s m is in
    not_replaced m datagram (answer_of_any_size s m) ((read_is_spelled datagram m).0 spelled) answer (omega (arith, answer.index))

pub success_fits : (s : SignState) (m : SnmpMessage) (datagram : List ℕ) → message_of datagram ≡ Some m → m.kind ≡ Set → (answer_of_any_size s m).status ≡ NoError
    → reply_to m (answer_of_any_size s m) ≡ canonical (response_to m (error_status_number (answer_of_any_size s m).status) (answer_of_any_size s m).index)
success_fits s m datagram spelled is done =
    let answer : IsSetAnswer m.bindings (answer_of_any_size s m) = is_set_answer s m is in
    not_replaced m datagram (answer_of_any_size s m) ((read_is_spelled datagram m).0 spelled) answer (omega (arith, answer.success done))
