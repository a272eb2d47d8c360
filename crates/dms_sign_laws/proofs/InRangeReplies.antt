-- A sign in range replies with octets that spell the Response that was meant.
use Rattle.std.proofs.Common.{◌≡◌, ℕ, ◌+◌, ◌*◌, ◌<◌, ◌≤◌, Bool, true, false, cond, List, [], ◌∷◌, ◌++◌, length, map, find, Option, Some, None, Result, refl, arith, length-append, leb-true}
use Rattle.std.specs.Prelude.{nat_le}
use Rattle.std.specs.Option.{IfSome}
use Rattle.std.specs.List.{AllByRecursion, position_from}
use Rattle.dms_face.proofs.Lists.{if_or, all_append}
use Rattle.dms_wire.specs.declared.message.Kind.{Kind}
use Rattle.dms_wire.specs.declared.message.Kind.TheVariants.{Get, GetNext, Response, Set}
use Rattle.dms_wire.specs.declared.error_status.ErrorStatus.{ErrorStatus}
use Rattle.dms_wire.specs.ErrorStatus.{error_status_number}
use Rattle.dms_wire.specs.Message.{VarBind, SnmpMessage}
use Rattle.dms_wire.specs.MessageOf.{message_of}
use Rattle.dms_wire.specs.Limits.{IsValueInLimits, AreBindingsInLimits, IsMessageInLimits}
use Rattle.dms_wire.specs.Spelling.{Spells}
use Rattle.dms_wire.specs.Canonical.{canonical}
use Rattle.dms_wire.specs.Response.{response_to}
use Rattle.dms_wire.proofs.CanonicalLaws.{canonical_spells}
use Rattle.dms_wire.proofs.FewBindings.{few_bindings}
use Rattle.dms_wire.proofs.LimitsLaws.{spelled_in_limits}
use Rattle.dms_wire.proofs.MessageOfLaws.{read_is_spelled}
use Rattle.dms_wire.proofs.ShorterSpellings.{response_no_longer}
use Rattle.dms_table.specs.declared.activation.Cause.{Cause}
use Rattle.dms_table.specs.Rows.{TableModel, asked}
use Rattle.dms_codes.specs.Codes.{activation_of}
use Rattle.dms_table.specs.Activation.{ShownModel, decided}
use Rattle.dms_sign.specs.State.{SignState}
use Rattle.dms_sign.specs.Values.{value_of, value_after}
use Rattle.dms_sign_access.specs.Access.{Write, SetNumber, SetCode, SetField, AskRow, Activate, SetRemaining, is_command}
use Rattle.dms_sign.specs.SetRequest.{SetCause, is_command_at, cause_if, causes_at, causes_after, causes, assigned}
use Rattle.dms_wire_ber.specs.Limits.{longest_datagram}
use Rattle.dms_sign.specs.Requests.{Answer, refused, granted, found_unless, has_no_value, with_value, get, is_last, next_after, get_next, as_decided, as_asked, with_remaining, commanded, commanded_if, writes_of, command_index, set_unless, may_write, answer_by, answer_of_any_size}
use Rattle.dms_sign.specs.Reply.{too_big, response_of, response_sent, reply_to, dropped, heard, on_message_if, received}
use Rattle.dms_sign.specs.InRange.{IsSignInRange, IsBindingInLimits, IsSpelledReply}
use Rattle.dms_sign.proofs.InRangeLists.{if_position}
use Rattle.dms_sign.proofs.InRangeValues.{value_of_within, value_after_within}

-- an answer to these bindings that can be said in a message
pub record IsAnswerInLimits (bindings : List VarBind) (a : Answer) : Type 0 where
  pub status : error_status_number a.status < 128
  pub index : a.index ≤ length bindings
  pub within : AreBindingsInLimits a.bindings

granted_within : (s : SignState) (bindings found : List VarBind) → AreBindingsInLimits found → IsAnswerInLimits bindings (granted s found)
granted_within s bindings found within = record { status = omega arith; index = omega arith; within = within }

refused_within : (s : SignState) (bindings : List VarBind) (status : ErrorStatus) (index : ℕ) → error_status_number status < 128 → index ≤ length bindings → AreBindingsInLimits bindings
    → IsAnswerInLimits bindings (refused s bindings status index)
refused_within s bindings status index small few within = record { status = small; index = few; within = within }

-- ---- reading

found_within : (s : SignState) (bindings found : List VarBind) (o : Option ℕ) → IfSome o (λ place. place < 1 + length bindings)
    → AreBindingsInLimits bindings → AreBindingsInLimits found → IsAnswerInLimits bindings (found_unless s bindings found o)
found_within s bindings found o few within values = grind arith

values_within : (s : SignState) (bindings : List VarBind) → IsSignInRange s → AreBindingsInLimits bindings
    → AreBindingsInLimits (map (with_value s) bindings)
values_within s [] is within = tt
values_within s (b ∷ bs) is within =
    (within.0, if_or IsValueInLimits (value_of s b.name) b.value (value_of_within s b.name is) within.1, values_within s bs is within.2)

get_within : (s : SignState) (bindings : List VarBind) → IsSignInRange s → AreBindingsInLimits bindings → IsAnswerInLimits bindings (get s bindings)
get_within s bindings is within =
    found_within s bindings (map (with_value s) bindings) (position_from (has_no_value s) 1 bindings) (if_position (has_no_value s) 1 bindings) within
    (values_within s bindings is within)

nexts_within : (s : SignState) (bindings : List VarBind) → IsSignInRange s → AreBindingsInLimits bindings
    → AreBindingsInLimits (map (next_after s) bindings)
nexts_within s [] is within = tt
nexts_within s (b ∷ bs) is within =
    let next : IsBindingInLimits (next_after s b) =
    if_or IsBindingInLimits (value_after s b.name) b (value_after_within s b.name is) (record { name = within.0; value = within.1 }) in
    (next.name, next.value, nexts_within s bs is within.2)

get_next_within : (s : SignState) (bindings : List VarBind) → IsSignInRange s → AreBindingsInLimits bindings
    → IsAnswerInLimits bindings (get_next s bindings)
get_next_within s bindings is within =
    found_within s bindings (map (next_after s) bindings) (position_from (is_last s) 1 bindings) (if_position (is_last s) 1 bindings) within
    (nexts_within s bindings is within)

-- ---- commands

as_decided_within : (old new : SignState) (bindings : List VarBind) (index : ℕ) (octets : List ℕ) (r : Result ShownModel Cause)
    → index ≤ length bindings
    → AreBindingsInLimits bindings → IsAnswerInLimits bindings (as_decided old new bindings index octets r)
as_decided_within old new bindings index octets r few within = grind arith

as_asked_within : (old new : SignState) (bindings : List VarBind) (index : ℕ) (o : Option TableModel) → index ≤ length bindings
    → AreBindingsInLimits bindings → IsAnswerInLimits bindings (as_asked old new bindings index o)
as_asked_within old new bindings index o few within = grind arith

commanded_within : (old new : SignState) (bindings : List VarBind) (index : ℕ) (w : Write) → index ≤ length bindings
    → AreBindingsInLimits bindings → IsAnswerInLimits bindings (commanded old new bindings index w)
commanded_within old new bindings index (AskRow id ask) few within = as_asked_within old new bindings index (asked new.table id ask) few within
commanded_within old new bindings index (Activate octets) few within =
    as_decided_within old new bindings index octets
    (decided new.config.face new.settings.defaults new.table new.shown (activation_of old.table.order octets)) few within
commanded_within old new bindings index (SetRemaining minutes) few within = granted_within (with_remaining new minutes) bindings bindings within
commanded_within old new bindings index (SetNumber object number) few within = granted_within new bindings bindings within
commanded_within old new bindings index (SetCode object octets) few within = granted_within new bindings bindings within
commanded_within old new bindings index (SetField id field) few within = granted_within new bindings bindings within

commanded_if_within : (old new : SignState) (bindings : List VarBind) (index : ℕ) (o : Option Write) → index ≤ length bindings
    → AreBindingsInLimits bindings → IsAnswerInLimits bindings (commanded_if old new bindings index o)
commanded_if_within old new bindings index None few within = granted_within new bindings bindings within
commanded_if_within old new bindings index (Some command) few within = commanded_within old new bindings index command few within

-- ---- writing

-- a cause among at most so many bindings
pub record IsSmallCause (most : ℕ) (cause : SetCause) : Type 0 where
  pub index : cause.index ≤ most
  pub status : error_status_number cause.status < 128

cause_small : (most place : ℕ) (test : Bool × ErrorStatus) → place ≤ most → error_status_number test.1 < 128 → IfSome (cause_if place test) (IsSmallCause most)
cause_small most place test few small = grind arith

causes_at_small : (s : SignState) (may : Bool) (before : List VarBind) (binding : VarBind) (most : ℕ) → length before + 1 ≤ most
    → AllByRecursion (IsSmallCause most) (causes_at s may before binding)
causes_at_small s may before binding most few = grind arith

causes_after_small : (s : SignState) (may : Bool) (before bindings : List VarBind) (most : ℕ) → length before + length bindings ≤ most
    → AllByRecursion (IsSmallCause most) (causes_after s may before bindings)
causes_after_small s may before [] most few = tt
causes_after_small s may before (b ∷ bs) most few =
    let longer : length (before ++ b ∷ []) + length bs ≤ most = omega (arith, length-append before (b ∷ [])) in
    all_append (IsSmallCause most) (causes_at s may before b) (causes_after s may (before ++ b ∷ []) bs)
    (causes_at_small s may before b most (omega arith))
    (causes_after_small s may (before ++ b ∷ []) bs most longer)

causes_small : (s : SignState) (may : Bool) (bindings : List VarBind) → AllByRecursion (IsSmallCause (length bindings)) (causes s may bindings)
unfolding causes
causes_small s may bindings = causes_after_small s may [] bindings (length bindings) (omega arith)

command_few : (s : SignState) (bindings : List VarBind) → command_index s bindings ≤ length bindings
command_few s bindings =
    let small : command_index s bindings < 1 + length bindings =
    if_or (λ place. place < 1 + length bindings) (position_from (is_command_at s) 1 bindings) 0 (if_position (is_command_at s) 1 bindings)
    (omega arith) in
    omega arith

set_unless_within : (s : SignState) (bindings : List VarBind) (found : List SetCause) → AllByRecursion (IsSmallCause (length bindings)) found
    → AreBindingsInLimits bindings → IsAnswerInLimits bindings (set_unless s bindings found)
set_unless_within s bindings [] small within =
    commanded_if_within s (assigned s (writes_of s bindings)) bindings (command_index s bindings) (find is_command (writes_of s bindings))
    (command_few s bindings) within
set_unless_within s bindings (cause ∷ more) small within = refused_within s bindings cause.status cause.index small.0.status small.0.index within

-- ---- answers

answer_by_within : (s : SignState) (m : SnmpMessage) (kind : Kind) → IsSignInRange s → AreBindingsInLimits m.bindings
    → IsAnswerInLimits m.bindings (answer_by s m kind)
answer_by_within s m Get is within = get_within s m.bindings is within
answer_by_within s m GetNext is within = get_next_within s m.bindings is within
answer_by_within s m Response is within = granted_within s m.bindings m.bindings within
answer_by_within s m Set is within =
    set_unless_within s m.bindings (causes s (may_write s m) m.bindings) (causes_small s (may_write s m) m.bindings) within

pub answer_within : (s : SignState) (m : SnmpMessage) → IsSignInRange s → AreBindingsInLimits m.bindings → IsAnswerInLimits m.bindings (answer_of_any_size s m)
unfolding answer_of_any_size
answer_within s m is within = answer_by_within s m m.kind is within

pub response_within : (m : SnmpMessage) (a : Answer) → IsMessageInLimits m → length m.bindings ≤ 210 → IsAnswerInLimits m.bindings a
    → IsMessageInLimits (response_of m a)
response_within m a is few within = grind arith

pub spelled_response_within : (s : SignState) (m : SnmpMessage) (octets : List ℕ) → IsSignInRange s → Spells m octets
    → IsMessageInLimits (response_of m (answer_of_any_size s m))
spelled_response_within s m octets is spells =
    let within = spelled_in_limits m octets spells in
    let few : 7 * length m.bindings ≤ length octets = few_bindings m octets spells in
    let size : length octets ≤ 1472 = spells.size in
    response_within m (answer_of_any_size s m) within (omega arith) (answer_within s m is within.bindings)

pub too_big_within : (m : SnmpMessage) → IsMessageInLimits m → IsMessageInLimits (response_to m too_big 0)
too_big_within m is = record { community = is.community; request = is.request; status = refl; index = refl; bindings = is.bindings }

-- ---- replies

-- the reply to a message that octets spell spells the Response that is sent
sent_if : (m : SnmpMessage) (a : Answer) (octets : List ℕ) (b : Bool) → Spells m octets → IsAnswerInLimits m.bindings a
    → nat_le (length (canonical (response_of m a))) longest_datagram ≡ b
    → Spells (cond b (response_of m a) (response_to m too_big 0)) (canonical (cond b (response_of m a) (response_to m too_big 0)))
sent_if m a octets true spells within e =
    let few : 7 * length m.bindings ≤ length octets = few_bindings m octets spells in
    let size : length octets ≤ 1472 = spells.size in
    canonical_spells (response_of m a) (response_within m a (spelled_in_limits m octets spells) (omega arith) within)
    (leb-true (length (canonical (response_of m a))) longest_datagram e)
sent_if m a octets false spells within e =
    let short : length (canonical (response_to m too_big 0)) ≤ length octets = response_no_longer m octets too_big 0 spells (omega arith) (omega arith) in
    let size : length octets ≤ 1472 = spells.size in
    canonical_spells (response_to m too_big 0) (too_big_within m (spelled_in_limits m octets spells)) (omega arith)

reply_spells : (m : SnmpMessage) (a : Answer) (octets : List ℕ) → Spells m octets → IsAnswerInLimits m.bindings a
    → Spells (response_sent m a) (reply_to m a)
unfolding reply_to
reply_spells m a octets spells within = sent_if m a octets (nat_le (length (canonical (response_of m a))) longest_datagram) spells within refl

record IsResponse (m response : SnmpMessage) : Type 0 where
  kind : response.kind ≡ Response
  community : response.community ≡ m.community
  number : response.request ≡ m.request

sent_is : (m : SnmpMessage) (a : Answer) (b : Bool) → IsResponse m (cond b (response_of m a) (response_to m too_big 0))
sent_is m a b = grind arith

spelled_reply : (s : SignState) (m : SnmpMessage) (octets : List ℕ) → message_of octets ≡ Some m
    → Spells (response_sent m (answer_of_any_size s m)) (reply_to m (answer_of_any_size s m))
    → IsSpelledReply s octets (reply_to m (answer_of_any_size s m))
spelled_reply s m octets asked spells =
    let is = sent_is m (answer_of_any_size s m) (nat_le (length (canonical (response_of m (answer_of_any_size s m)))) longest_datagram) in
    record {
      request = m;
      asked = asked;
      response = response_sent m (answer_of_any_size s m);
      meant = refl;
      kind = is.kind;
      community = is.community;
      number = is.number;
      spelled = (read_is_spelled (reply_to m (answer_of_any_size s m)) (response_sent m (answer_of_any_size s m))).1 spells;
      short = spells.size;
    }

heard_reply : (s : SignState) (m : SnmpMessage) (octets reply : List ℕ) (b : Bool) → IsSignInRange s → message_of octets ≡ Some m
    → (cond b (heard s m) (dropped s)).reply ≡ Some reply → IsSpelledReply s octets reply
heard_reply s m octets reply false is asked e = absurd (cc)
heard_reply s m octets reply true is asked e = grind (arith, read_is_spelled, answer_within, spelled_in_limits, spelled_reply, reply_spells)

message_reply : (s : SignState) (o : Option SnmpMessage) (octets reply : List ℕ) → IsSignInRange s → message_of octets ≡ o
    → (on_message_if s o).reply ≡ Some reply → IsSpelledReply s octets reply
message_reply s o octets reply is asked e = grind (arith, heard_reply)

pub replies_spell_their_response : (s : SignState) (octets reply : List ℕ) → IsSignInRange s → (received s octets).reply ≡ Some reply
    → IsSpelledReply s octets reply
unfolding received
replies_spell_their_response s octets reply is e = message_reply s (message_of octets) octets reply is refl e
