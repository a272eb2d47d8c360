-- Each reply fits a datagram, and that to a Set that is done is not replaced.
use Rattle.std.proofs.Common.{◌≡◌, ℕ, ◌≤◌, Bool, true, false, cond, List, length, Option, Some, None, refl, sym, ap, ◌∙◌, subst, arith}
use Rattle.std.specs.Prelude.{nat_le, IfSome}
use Rattle.dms_wire_ber.specs.Limits.{longest_datagram}
use Rattle.dms_wire.specs.declared.message.Kind.{Kind}
use Rattle.dms_wire.specs.declared.message.Kind.TheVariants.{Get, GetNext, Response, Set}
use Rattle.dms_wire.specs.Message.{ObjectValue, VarBind, SnmpMessage}
use Rattle.dms_wire.specs.MessageOf.{message_of}
use Rattle.dms_wire.specs.Spelling.{Spells}
use Rattle.dms_wire.specs.Canonical.{canonical}
use Rattle.dms_wire.specs.Response.{response_to}
use Rattle.dms_wire.proofs.MessageOfLaws.{read_is_spelled}
use Rattle.dms_wire.proofs.ShorterSpellings.{response_no_longer}
use Rattle.dms_mib_replies.specs.Replies.{too_big, or_too_big, reply_with, reply_found, get_reply, get_next_reply, IsRead}
use Rattle.dms_mib_replies.proofs.Fitting.{error_fits, sent_whole}
use Rattle.dms_sign.specs.Requests.{Answer, may_write}
use Rattle.dms_sign.specs.Reply as sign
use Rattle.dms_sign.specs.ReplyView.{is_addressed}
use Rattle.dms_device.specs.declared.fault.BindingFault.{BindingFault}
use Rattle.dms_device.specs.Setting.{are_all_named, refusal_of}
use Rattle.dms_agent.specs.declared.agent.Agent.{Agent}
use Rattle.dms_agent.specs.Values.{agent_value, agent_after}
use Rattle.dms_agent.specs.Received.{AgentReceived, dropped, of_sign, set_reply, device_set, agent_answered, on_message_if, agent_received}
use Rattle.dms_agent.specs.Promises.{is_done}
use Rattle.dms_agent.proofs.Objects.{done_reply}

abbrev IsSmall : List ℕ → Type 0
IsSmall octets = length octets ≤ longest_datagram

-- ---- replies that are replaced where they do not fit

small_by : (m r : SnmpMessage) (b : Bool) → nat_le (length (canonical r)) longest_datagram ≡ b → IsRead m
    → IsSmall (canonical (cond b r (response_to m too_big 0)))
small_by m r b e is = grind (arith, error_fits)

small : (m r : SnmpMessage) → IsRead m → IsSmall (canonical (or_too_big m r))
small m r is = small_by m r (nat_le (length (canonical r)) longest_datagram) refl is

found_small : (m : SnmpMessage) (found : List VarBind) (o : Option ℕ) → IsRead m → IsSmall (reply_found m found o)
found_small m found None is = small m _ is
found_small m found (Some index) is = small m _ is

get_small : (m : SnmpMessage) (reads : List ℕ → Option ObjectValue) → IsRead m → IsSmall (get_reply reads m)
unfolding get_reply
get_small m reads is = found_small m _ _ is

next_small : (m : SnmpMessage) (follows : List ℕ → Option VarBind) → IsRead m → IsSmall (get_next_reply follows m)
unfolding get_next_reply
next_small m follows is = found_small m _ _ is

sign_small : (m : SnmpMessage) (x : Answer) → IsRead m → IsSmall (sign.reply_to m x)
unfolding sign.reply_to
sign_small m x is = small m _ is

set_small : (m : SnmpMessage) (o : Option BindingFault) → IsRead m → IsSmall (set_reply m o)
set_small m None is = small m _ is
set_small m (Some refusal) is = small m _ is

-- ---- whatever comes

abbrev Fits : AgentReceived → Type 0
Fits x = IfSome x.reply IsSmall

set_fits : (a : Agent) (m : SnmpMessage) (named : Bool) (refusal : Option BindingFault) → IsRead m
    → Fits (cond named (device_set a m refusal) (of_sign a (sign.heard a.sign m)))
set_fits a m true refusal is = set_small m refusal is
set_fits a m false refusal is = sign_small m _ is

answered_fits : (a : Agent) (m : SnmpMessage) (kind : Kind) → IsRead m → Fits (agent_answered a m kind)
answered_fits a m Get is = get_small m (agent_value a) is
answered_fits a m GetNext is = next_small m (agent_after a) is
answered_fits a m Response is = tt
answered_fits a m Set is = set_fits a m (are_all_named a.device m.bindings) (refusal_of a.device (may_write a.sign m) m.bindings) is

addressed_fits : (a : Agent) (m : SnmpMessage) (addressed : Bool) → IsRead m → Fits (cond addressed (agent_answered a m m.kind) (dropped a))
addressed_fits a m true is = answered_fits a m m.kind is
addressed_fits a m false is = tt

is_read : (m : SnmpMessage) (datagram : List ℕ) → message_of datagram ≡ Some m → IsRead m
is_read m datagram e = record { octets = datagram; spelled = (read_is_spelled datagram m).0 e }

message_fits : (a : Agent) (datagram : List ℕ) (o : Option SnmpMessage) → message_of datagram ≡ o → Fits (on_message_if a o)
message_fits a datagram None e = tt
message_fits a datagram (Some m) e = addressed_fits a m (is_addressed a.sign m) (is_read m datagram e)

received_fits : (a : Agent) (datagram : List ℕ) → Fits (agent_received a datagram)
unfolding agent_received
received_fits a datagram = message_fits a datagram (message_of datagram) refl

pub reply_fits : (a : Agent) (datagram reply : List ℕ) → (agent_received a datagram).reply ≡ Some reply → length reply ≤ longest_datagram
reply_fits a datagram reply e = subst (λ (o : Option (List ℕ)). IfSome o IsSmall) e (received_fits a datagram)

-- ---- a Set that is done

whole : (m : SnmpMessage) (datagram : List ℕ) → Spells m datagram → reply_with m 0 0 m.bindings ≡ canonical (response_to m 0 0)
whole m datagram is =
    let shorter : length (canonical (response_to m 0 0)) ≤ length datagram = response_no_longer m datagram 0 0 is (omega arith) (omega arith) in
    let size = is.size in
    sym (sent_whole m 0 0 m.bindings (response_to m 0 0) (canonical (response_to m 0 0)) refl refl (omega arith))

pub done_is_whole : (a : Agent) (m : SnmpMessage) (datagram : List ℕ) → message_of datagram ≡ Some m → is_done a m ≡ true
    → (agent_received a datagram).reply ≡ Some (canonical (response_to m 0 0))
done_is_whole a m datagram e done = done_reply a m datagram e done ∙ ap Some (whole m datagram ((read_is_spelled datagram m).0 e))
