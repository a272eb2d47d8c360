-- Where nothing is published and fonts cannot be read, an agent is its sign.
use Rattle.std.proofs.Common.{◌≡◌, ℕ, Bool, true, false, cond, List, [], ◌∷◌, Option, Some, None, refl, sym, ap, ◌∙◌}
use Rattle.std.proofs.lemmas.Bool.{and_parts}
use Rattle.dms_wire.specs.declared.message.Kind.{Kind}
use Rattle.dms_wire.specs.declared.message.Kind.TheVariants.{Get, GetNext, Response, Set}
use Rattle.dms_wire.specs.Message.{ObjectValue, VarBind, SnmpMessage}
use Rattle.dms_wire.specs.MessageOf.{message_of}
use Rattle.dms_mib_replies.specs.Replies.{get_reply, get_next_reply}
use Rattle.dms_codes.specs.declared.codes.Activation.{Activation}
use Rattle.dms_sign.specs.State.{SignState}
use Rattle.dms_sign.specs.Values.{value_of, value_after}
use Rattle.dms_sign.specs.Requests.{Answer, found_unless, may_write, answer_by, answer_of_any_size}
use Rattle.dms_sign.specs.Reply as sign
use Rattle.dms_sign.specs.ReplyView.{is_addressed, answered}
use Rattle.dms_sign.proofs.Addressed.{on_addressed, not_addressed}
use Rattle.dms_sign.proofs.Sending.{get_says, get_next_says}
use Rattle.dms_device.specs.Setting.{are_all_named, refusal_of}
use Rattle.dms_agent.specs.Values.{or_else, agent_value, earliest, agent_after}
use Rattle.dms_agent.specs.Received.{AgentReceived, dropped, of_sign, read, device_set, agent_answered, on_message_if, agent_received}
use Rattle.dms_agent.specs.Promises.{alone}

-- ---- what names read

or_none : (o : Option ObjectValue) → or_else o None ≡ o
or_none (Some value) = refl
or_none None = refl

earliest_none : (o : Option VarBind) → earliest o None ≡ o
earliest_none (Some binding) = refl
earliest_none None = refl

value_alone : (s : SignState) (name : List ℕ) → agent_value (alone s) name ≡ value_of s name
value_alone s name = or_none (or_else (value_of s name) None) ∙ or_none (value_of s name)

after_alone : (s : SignState) (name : List ℕ) → agent_after (alone s) name ≡ value_after s name
after_alone s name = earliest_none (earliest (value_after s name) None) ∙ earliest_none (value_after s name)

values_alone : (s : SignState) → agent_value (alone s) ≡ value_of s
values_alone s = λ i name. value_alone s name i

afters_alone : (s : SignState) → agent_after (alone s) ≡ value_after s
afters_alone s = λ i name. after_alone s name i

-- ---- what is answered, by the sign's answer

abbrev answer_to : SignState → SnmpMessage → Answer → AgentReceived
answer_to s m x = of_sign (alone s) (record { reply = Some (sign.reply_to m x); after = sign.awake x.after; accepted = x.accepted })

abbrev made : SignState → List ℕ → SignState → Option Activation → AgentReceived
made s octets after accepted = record { reply = Some octets; after = alone after; accepted = accepted }

same : (s : SignState) (one other : List ℕ) (x y : SignState) (o p : Option Activation) → one ≡ other → x ≡ y → o ≡ p
    → made s one x o ≡ made s other y p
same s one other x y o p e f g = ap (λ octets. made s octets x o) e ∙ ap (λ after. made s other after o) f ∙ ap (λ accepted. made s other y accepted) g

found_after : (s : SignState) (bindings found : List VarBind) (o : Option ℕ) → s ≡ (found_unless s bindings found o).after
found_after s bindings found None = refl
found_after s bindings found (Some index) = refl

found_accepted : (s : SignState) (bindings found : List VarBind) (o : Option ℕ) → None ≡ (found_unless s bindings found o).accepted
found_accepted s bindings found None = refl
found_accepted s bindings found (Some index) = refl

powered_get : (s : SignState) → s.powered ≡ true → sign.after_get s ≡ sign.awake s
powered_get s e = ap (λ b. cond b (sign.awake s) s) e

heard_by : (s : SignState) (m : SnmpMessage) (kind : Kind) → m.kind ≡ kind → of_sign (alone s) (sign.heard s m) ≡ answer_to s m (answer_by s m kind)
unfolding answer_of_any_size
heard_by s m kind e = ap (λ k. answer_to s m (answer_by s m k)) e

read_found : (s : SignState) (m : SnmpMessage) (octets : List ℕ) (found : List VarBind) (o : Option ℕ) → s.powered ≡ true
    → octets ≡ sign.reply_to m (found_unless s m.bindings found o) → read (alone s) octets ≡ answer_to s m (found_unless s m.bindings found o)
read_found s m octets found o powered e =
    same s octets (sign.reply_to m (found_unless s m.bindings found o)) (sign.after_get s) (sign.awake (found_unless s m.bindings found o).after) None
    (found_unless s m.bindings found o).accepted e (powered_get s powered ∙ ap sign.awake (found_after s m.bindings found o)) (found_accepted s m.bindings found o)

none_named : (bindings : List VarBind) → are_all_named [] bindings ≡ false
none_named [] = refl
none_named (binding ∷ more) = refl

-- ---- by the kind of a message

by_kind : (s : SignState) (m : SnmpMessage) (kind : Kind) → m.kind ≡ kind → s.powered ≡ true
    → agent_answered (alone s) m kind ≡ of_sign (alone s) (answered s m kind)
by_kind s m Get e powered =
    read_found s m (get_reply (agent_value (alone s)) m) _ _ powered (ap (λ reads. get_reply reads m) (values_alone s) ∙ get_says s m) ∙ sym (heard_by s m Get e)
by_kind s m GetNext e powered =
    read_found s m (get_next_reply (agent_after (alone s)) m) _ _ powered (ap (λ follows. get_next_reply follows m) (afters_alone s) ∙ get_next_says s m)
    ∙ sym (heard_by s m GetNext e)
by_kind s m Response e powered = refl
by_kind s m Set e powered =
    ap (λ named. cond named (device_set (alone s) m (refusal_of [] (may_write s m) m.bindings)) (of_sign (alone s) (sign.heard s m))) (none_named m.bindings)

by_address : (s : SignState) (m : SnmpMessage) (addressed : Bool) → is_addressed s m ≡ addressed
    → cond addressed (agent_answered (alone s) m m.kind) (dropped (alone s)) ≡ of_sign (alone s) (sign.on_message s m)
by_address s m true e = by_kind s m m.kind refl (and_parts s.powered _ e).0 ∙ ap (of_sign (alone s)) (sym (on_addressed s m e))
by_address s m false e = ap (of_sign (alone s)) (sym (not_addressed s m e))

on_message_alone : (s : SignState) (o : Option SnmpMessage) → on_message_if (alone s) o ≡ of_sign (alone s) (sign.on_message_if s o)
on_message_alone s None = refl
on_message_alone s (Some m) = by_address s m (is_addressed s m) refl

pub received_alone : (s : SignState) (datagram : List ℕ) → agent_received (alone s) datagram ≡ of_sign (alone s) (sign.received s datagram)
unfolding agent_received sign.received
received_alone s datagram = on_message_alone s (message_of datagram)
