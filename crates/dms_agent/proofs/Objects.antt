-- What a datagram leaves of the objects that are published, and what a Set that is done is answered.
use Rattle.std.proofs.Common.{◌≡◌, ℕ, ◌&&◌, Bool, true, false, cond, List, Option, Some, None, refl, ap, ◌∙◌, arith}
use Rattle.std.specs.Prelude.{is_none}
use Rattle.dms_wire.specs.declared.message.Kind.{Kind}
use Rattle.dms_wire.specs.declared.message.Kind.TheVariants.{Get, GetNext, Response, Set}
use Rattle.dms_wire.specs.Message.{SnmpMessage}
use Rattle.dms_wire.specs.MessageOf.{message_of}
use Rattle.dms_mib_replies.specs.Replies.{reply_with, get_reply, get_next_reply}
use Rattle.dms_sign.specs.Requests.{may_write}
use Rattle.dms_sign.specs.Reply as sign
use Rattle.dms_sign.specs.ReplyView.{is_addressed}
use Rattle.dms_device.specs.declared.fault.BindingFault.{BindingFault}
use Rattle.dms_device.specs.Setting.{are_all_named, refusal_of, written}
use Rattle.dms_agent.specs.declared.agent.Agent.{Agent}
use Rattle.dms_agent.specs.Values.{agent_value, agent_after}
use Rattle.dms_agent.specs.Received.{AgentReceived, dropped, of_sign, read, device_set, agent_answered, on_message_if, agent_received}
use Rattle.dms_agent.specs.Promises.{is_set, is_done, objects_after}

-- what is answered, by the kind, by whether all names are the device's, and by its refusal
abbrev answered_by : Agent → SnmpMessage → Kind → Bool → Option BindingFault → AgentReceived
answered_by a m Get named refusal = read a (get_reply (agent_value a) m)
answered_by a m GetNext named refusal = read a (get_next_reply (agent_after a) m)
answered_by a m Response named refusal = dropped a
answered_by a m Set named refusal = cond named (device_set a m refusal) (of_sign a (sign.heard a.sign m))

device_by : (a : Agent) (m : SnmpMessage) (addressed : Bool) (kind : Kind) (named : Bool) (refusal : Option BindingFault)
    → (cond addressed (answered_by a m kind named refusal) (dropped a)).after.device
    ≡ cond (addressed && is_set kind && named && is_none refusal) (written a.device m.bindings) a.device
device_by a m false kind named refusal = refl
device_by a m true Get named refusal = refl
device_by a m true GetNext named refusal = refl
device_by a m true Response named refusal = refl
device_by a m true Set false refusal = refl
device_by a m true Set true None = refl
device_by a m true Set true (Some refusal) = refl

reply_by : (a : Agent) (m : SnmpMessage) (addressed : Bool) (kind : Kind) (named : Bool) (refusal : Option BindingFault)
    → (addressed && is_set kind && named && is_none refusal) ≡ true
    → (cond addressed (answered_by a m kind named refusal) (dropped a)).reply ≡ Some (reply_with m 0 0 m.bindings)
reply_by a m addressed kind named refusal e = grind arith

same_answer : (a : Agent) (m : SnmpMessage) (kind : Kind)
    → agent_answered a m kind ≡ answered_by a m kind (are_all_named a.device m.bindings) (refusal_of a.device (may_write a.sign m) m.bindings)
same_answer a m Get = refl
same_answer a m GetNext = refl
same_answer a m Response = refl
same_answer a m Set = refl

device_after_message : (a : Agent) (m : SnmpMessage) → (on_message_if a (Some m)).after.device ≡ objects_after a m
device_after_message a m =
    ap (λ (x : AgentReceived). (cond (is_addressed a.sign m) x (dropped a)).after.device) (same_answer a m m.kind)
    ∙ device_by a m (is_addressed a.sign m) m.kind (are_all_named a.device m.bindings) (refusal_of a.device (may_write a.sign m) m.bindings)

pub objects_change : (a : Agent) (m : SnmpMessage) (datagram : List ℕ) → message_of datagram ≡ Some m
    → (agent_received a datagram).after.device ≡ objects_after a m
unfolding agent_received
objects_change a m datagram e = ap (λ o. (on_message_if a o).after.device) e ∙ device_after_message a m

pub done_reply : (a : Agent) (m : SnmpMessage) (datagram : List ℕ) → message_of datagram ≡ Some m → is_done a m ≡ true
    → (agent_received a datagram).reply ≡ Some (reply_with m 0 0 m.bindings)
unfolding agent_received
done_reply a m datagram e done =
    ap (λ o. (on_message_if a o).reply) e ∙ ap (λ (x : AgentReceived). (cond (is_addressed a.sign m) x (dropped a)).reply) (same_answer a m m.kind)
    ∙ reply_by a m (is_addressed a.sign m) m.kind (are_all_named a.device m.bindings) (refusal_of a.device (may_write a.sign m) m.bindings) done
