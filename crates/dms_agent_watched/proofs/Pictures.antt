-- Pictures that are the same, and what leaves a picture as it was.
use Rattle.std.proofs.Common.{◌≡◌, ℕ, ◌==◌, ◌&&◌, Bool, true, false, cond, List, [], ◌∷◌, Option, Some, None, Result, Ok, Err, refl, sym, ap, ◌∙◌, subst, arith}
use Rattle.std.specs.Prelude.{nat_eq, is_some}
use Rattle.std.specs.Cmp.Lexicographic.{pointwise, bytes_decides}
use Rattle.std.proofs.lemmas.Bool.{and_parts, and_from, eqb-true, eq-eqb}
use Rattle.dms_wire.specs.declared.message.Kind.{Kind}
use Rattle.dms_wire.specs.declared.message.Kind.TheVariants.{Get, GetNext, Response, Set}
use Rattle.dms_wire.specs.Message.{VarBind, SnmpMessage}
use Rattle.dms_wire.specs.MessageOf.{message_of}
use Rattle.dms_face.specs.declared.defaults.Defaults.{Defaults}
use Rattle.dms_codes.specs.declared.codes.MessageId.{MessageId}
use Rattle.dms_codes.specs.declared.codes.Activation.{Activation}
use Rattle.dms_table.specs.declared.activation.Cause.{Cause}
use Rattle.dms_table.specs.Rows.{TableModel}
use Rattle.dms_table.specs.Activation.{ShownModel}
use Rattle.dms_sign.specs.State.{SignState, communications_loss_mode, end_duration_mode}
use Rattle.dms_sign.specs.OwnCodes.{put_up_as_decided, staying, put_up_code}
use Rattle.dms_sign_access.specs.Access.{Write}
use Rattle.dms_sign.specs.SetRequest.{SetCause, assigned}
use Rattle.dms_sign.specs.Requests.{found_unless, as_decided, as_asked, with_remaining, commanded, commanded_if, set_unless, answer_by, answer_of_any_size}
use Rattle.dms_sign.specs.Reply as sign
use Rattle.dms_sign.specs.Events.{after_settling, counted_down, after_duration, after_silence, after_tick}
use Rattle.dms_device.specs.declared.fault.BindingFault.{BindingFault}
use Rattle.dms_agent.specs.declared.agent.Agent.{Agent}
use Rattle.dms_agent.specs.Received.{of_sign, device_set, agent_answered, dropped, on_message_if, agent_received}
use Rattle.dms_agent_watched.specs.Watched.{Picture, picture_of, same_defaults, same_picture, WatchedSign, changes_after, watched, is_put_up_by_itself}

-- ---- pictures

same_defaults_is : (one other : Defaults) → same_defaults one other ≡ true → one ≡ other
same_defaults_is one other same = grind (arith, and_parts, eqb-true)

same_defaults_self : (defaults : Defaults) → same_defaults defaults defaults ≡ true
same_defaults_self defaults = grind (arith, and_from, eq-eqb)

same_text_is : (one other : List ℕ) → pointwise nat_eq one other ≡ true → one ≡ other
same_text_is one other = (bytes_decides one other).0

same_text_self : (text : List ℕ) → pointwise nat_eq text text ≡ true
same_text_self text = (bytes_decides text text).1 refl

pub same_picture_is : (one other : Picture) → same_picture one other ≡ true → one ≡ other
same_picture_is one other same =
    let rest = and_parts ((one.beacon == other.beacon) && (one.pixel == other.pixel) && same_defaults one.defaults other.defaults) (pointwise nat_eq one.text other.text) same in
    let marks = and_parts ((one.beacon == other.beacon) && (one.pixel == other.pixel)) (same_defaults one.defaults other.defaults) rest.0 in
    let switches = and_parts (one.beacon == other.beacon) (one.pixel == other.pixel) marks.0 in
    λ i. record {
      text = same_text_is one.text other.text rest.1 i;
      defaults = same_defaults_is one.defaults other.defaults marks.1 i;
      beacon = eqb-true one.beacon other.beacon switches.0 i;
      pixel = eqb-true one.pixel other.pixel switches.1 i;
    }

same_picture_self : (picture : Picture) → same_picture picture picture ≡ true
same_picture_self picture = grind (arith, and_from, eq-eqb, same_defaults_self, same_text_self)

-- a picture that stays is none more
pub none_more : (picture other : Picture) (changes : ℕ) → other ≡ picture → changes_after picture other changes ≡ changes
none_more picture other changes same = grind (arith, same_picture_self)

-- ---- codes of the sign's own

decided_mode : (s : SignState) (id : MessageId) (mode : ℕ) (r : Result ShownModel Cause) → (put_up_as_decided s id mode r).shown.mode ≡ mode
decided_mode s id mode r = grind arith

mode_if : (b : Bool) (s other : SignState) (mode : ℕ) → other.shown.mode ≡ mode → (cond b (staying s mode) other).shown.mode ≡ mode
mode_if b s other mode e = grind arith

code_mode : (s : SignState) (octets : List ℕ) (mode : ℕ) → (put_up_code s octets mode).shown.mode ≡ mode
unfolding put_up_code
code_mode s octets mode = grind (arith, mode_if, decided_mode)

end_by_itself : (s : SignState) (octets : List ℕ) → is_put_up_by_itself (put_up_code s octets end_duration_mode).shown ≡ true
end_by_itself s octets = grind (arith, code_mode)

loss_by_itself : (s : SignState) (octets : List ℕ) → is_put_up_by_itself (put_up_code s octets communications_loss_mode).shown ≡ true
loss_by_itself s octets = grind (arith, code_mode)

-- ---- seconds

down_stays : (s : SignState) (o : Option ℕ) → is_put_up_by_itself (counted_down s o).shown ≡ false → picture_of (counted_down s o).shown ≡ picture_of s.shown
down_stays s o quiet = grind (arith, end_by_itself)

duration_stays : (s : SignState) → is_put_up_by_itself (after_duration s).shown ≡ false → picture_of (after_duration s).shown ≡ picture_of s.shown
unfolding after_duration
duration_stays s quiet = down_stays s s.shown.remaining quiet

silence_stays : (s : SignState) → is_put_up_by_itself (after_silence s).shown ≡ false → (after_silence s).shown ≡ s.shown
unfolding after_silence
silence_stays s quiet = grind (arith, loss_by_itself)

settling_stays : (s : SignState) → (after_settling s).shown ≡ s.shown
unfolding after_settling
settling_stays s = refl

pub tick_stays : (s : SignState) → is_put_up_by_itself (after_tick s).shown ≡ false → picture_of (after_tick s).shown ≡ picture_of s.shown
unfolding after_tick
tick_stays s quiet = grind (arith, silence_stays, duration_stays, settling_stays)

-- ---- datagrams

get_stays : (s : SignState) → (sign.after_get s).shown ≡ s.shown
get_stays s = grind arith

decided_stays : (old new : SignState) (bindings : List VarBind) (index : ℕ) (octets : List ℕ) (r : Result ShownModel Cause)
    → (as_decided old new bindings index octets r).accepted ≡ None → (as_decided old new bindings index octets r).after.shown ≡ old.shown
decided_stays old new bindings index octets r none = grind arith

asked_stays : (old new : SignState) (bindings : List VarBind) (index : ℕ) (o : Option TableModel) → new.shown ≡ old.shown
    → (as_asked old new bindings index o).after.shown ≡ old.shown
asked_stays old new bindings index o same = grind arith

remaining_stays : (s : SignState) (minutes : ℕ) → is_put_up_by_itself (with_remaining s minutes).shown ≡ false
    → picture_of (with_remaining s minutes).shown ≡ picture_of s.shown
remaining_stays s minutes quiet = grind (arith, end_by_itself)

command_stays : (old new : SignState) (bindings : List VarBind) (index : ℕ) (write : Write) → new.shown ≡ old.shown
    → (commanded old new bindings index write).accepted ≡ None → is_put_up_by_itself (commanded old new bindings index write).after.shown ≡ false
    → picture_of (commanded old new bindings index write).after.shown ≡ picture_of old.shown
command_stays old new bindings index write same none quiet = grind (arith, decided_stays, asked_stays, remaining_stays)

command_if_stays : (old new : SignState) (bindings : List VarBind) (index : ℕ) (o : Option Write) → new.shown ≡ old.shown
    → (commanded_if old new bindings index o).accepted ≡ None → is_put_up_by_itself (commanded_if old new bindings index o).after.shown ≡ false
    → picture_of (commanded_if old new bindings index o).after.shown ≡ picture_of old.shown
command_if_stays old new bindings index o same none quiet = grind (arith, command_stays)

assigned_stays : (s : SignState) (writes : List Write) → (assigned s writes).shown ≡ s.shown
unfolding assigned
assigned_stays s writes = refl

set_stays : (s : SignState) (bindings : List VarBind) (found : List SetCause)
    → (set_unless s bindings found).accepted ≡ None → is_put_up_by_itself (set_unless s bindings found).after.shown ≡ false
    → picture_of (set_unless s bindings found).after.shown ≡ picture_of s.shown
set_stays s bindings found none quiet = grind (arith, command_if_stays, assigned_stays)

found_stays : (s : SignState) (bindings found : List VarBind) (o : Option ℕ) → (found_unless s bindings found o).after ≡ s
found_stays s bindings found o = grind arith

kind_stays : (s : SignState) (m : SnmpMessage) (kind : Kind) → (answer_by s m kind).accepted ≡ None
    → is_put_up_by_itself (answer_by s m kind).after.shown ≡ false → picture_of (answer_by s m kind).after.shown ≡ picture_of s.shown
kind_stays s m kind none quiet = grind (arith, found_stays, set_stays)

answer_stays : (s : SignState) (m : SnmpMessage) → (answer_of_any_size s m).accepted ≡ None
    → is_put_up_by_itself (answer_of_any_size s m).after.shown ≡ false → picture_of (answer_of_any_size s m).after.shown ≡ picture_of s.shown
unfolding answer_of_any_size
answer_stays s m none quiet = kind_stays s m m.kind none quiet

agent_set_stays : (a : Agent) (m : SnmpMessage) (named : Bool) (refusal : Option BindingFault)
    → (cond named (device_set a m refusal) (of_sign a (sign.heard a.sign m))).accepted ≡ None
    → is_put_up_by_itself (cond named (device_set a m refusal) (of_sign a (sign.heard a.sign m))).after.sign.shown ≡ false
    → picture_of (cond named (device_set a m refusal) (of_sign a (sign.heard a.sign m))).after.sign.shown ≡ picture_of a.sign.shown
agent_set_stays a m named refusal none quiet = grind (arith, get_stays, answer_stays)

kind_of_stays : (a : Agent) (m : SnmpMessage) (kind : Kind) → (agent_answered a m kind).accepted ≡ None
    → is_put_up_by_itself (agent_answered a m kind).after.sign.shown ≡ false → picture_of (agent_answered a m kind).after.sign.shown ≡ picture_of a.sign.shown
kind_of_stays a m kind none quiet = grind (arith, get_stays, agent_set_stays)

heard_stays : (a : Agent) (m : SnmpMessage) (b : Bool) → (cond b (agent_answered a m m.kind) (dropped a)).accepted ≡ None
    → is_put_up_by_itself (cond b (agent_answered a m m.kind) (dropped a)).after.sign.shown ≡ false
    → picture_of (cond b (agent_answered a m m.kind) (dropped a)).after.sign.shown ≡ picture_of a.sign.shown
heard_stays a m b none quiet = grind (arith, kind_of_stays)

message_stays : (a : Agent) (o : Option SnmpMessage) → (on_message_if a o).accepted ≡ None
    → is_put_up_by_itself (on_message_if a o).after.sign.shown ≡ false → picture_of (on_message_if a o).after.sign.shown ≡ picture_of a.sign.shown
message_stays a o none quiet = grind (arith, heard_stays)

pub datagram_stays : (a : Agent) (datagram : List ℕ) → (agent_received a datagram).accepted ≡ None
    → is_put_up_by_itself (agent_received a datagram).after.sign.shown ≡ false
    → picture_of (agent_received a datagram).after.sign.shown ≡ picture_of a.sign.shown
unfolding agent_received
datagram_stays a datagram none quiet = message_stays a (message_of datagram) none quiet

-- ---- what is left as it was

abbrev made : Agent → ℕ → WatchedSign
made agent changes = record { agent = agent; changes = changes }

-- a picture that stays is not counted
left : (w : WatchedSign) (old new : Agent) (changes : ℕ) → made old changes ≡ w
    → picture_of new.sign.shown ≡ picture_of old.sign.shown → made new changes ≡ watched w new
left w old new changes is same =
    subst (λ (x : WatchedSign). made new changes ≡ watched x new) is
    (ap (made new) (sym (none_more (picture_of old.sign.shown) (picture_of new.sign.shown) changes same)))

pub told : (new : Agent) (sign : SignState) (shown : ShownModel) → sign ≡ new.sign → shown ≡ sign.shown → false ≡ is_put_up_by_itself shown
    → is_put_up_by_itself new.sign.shown ≡ false
told new sign shown is lent quiet =
    ap (λ (s : SignState). is_put_up_by_itself s.shown) (sym is) ∙ ap (λ (x : ShownModel). is_put_up_by_itself x) (sym lent) ∙ sym quiet

pub tick_left : (w : WatchedSign) (old new : Agent) (changes : ℕ) → made old changes ≡ w → new ≡ record old { sign = after_tick old.sign }
    → is_put_up_by_itself new.sign.shown ≡ false → made new changes ≡ watched w (record w.agent { sign = after_tick w.agent.sign })
tick_left w old new changes is after quiet =
    let stays = tick_stays old.sign (ap (λ (a : Agent). is_put_up_by_itself a.sign.shown) (sym after) ∙ quiet) in
    left w old new changes is (ap (λ (a : Agent). picture_of a.sign.shown) after ∙ stays)
    ∙ ap (λ (a : Agent). watched w a) (after ∙ ap (λ (x : WatchedSign). record x.agent { sign = after_tick x.agent.sign }) is)

not_some : {A : Type 0} (o : Option A) → is_some o ≡ false → o ≡ None
not_some o e = grind arith

pub datagram_left : (w : WatchedSign) (old new : Agent) (changes : ℕ) (datagram : List ℕ) (accepted : Option Activation)
    → made old changes ≡ w → new ≡ (agent_received old datagram).after → accepted ≡ (agent_received old datagram).accepted
    → false ≡ is_some accepted → is_put_up_by_itself new.sign.shown ≡ false
    → made new changes ≡ watched w (agent_received w.agent datagram).after
datagram_left w old new changes datagram accepted is after heard tells quiet =
    let none = sym heard ∙ not_some accepted (sym tells) in
    let stays = datagram_stays old datagram none (ap (λ (a : Agent). is_put_up_by_itself a.sign.shown) (sym after) ∙ quiet) in
    left w old new changes is (ap (λ (a : Agent). picture_of a.sign.shown) after ∙ stays)
    ∙ ap (λ (a : Agent). watched w a) (after ∙ ap (λ (x : WatchedSign). (agent_received x.agent datagram).after) is)

pub ruleset quiet = (none_more, tick_stays, datagram_stays)
