-- What comes of a datagram to an agent (RFC 1157, 4.1, and this profile).
use Rattle.std.specs.Prelude.{ℕ, if◌then◌else◌, List}
use Rattle.std.specs.Prelude.{Option, Some, None}
use Rattle.dms_wire.specs.declared.message.Kind.{Kind}
use Rattle.dms_wire.specs.declared.message.Kind.TheVariants.{Get, GetNext, Response, Set}
use Rattle.dms_wire.specs.ErrorStatus.{error_status_number}
use Rattle.dms_wire.specs.Message.{SnmpMessage}
use Rattle.dms_wire.specs.MessageOf.{message_of}
use Rattle.dms_mib_replies.specs.Replies.{reply_with, get_reply, get_next_reply}
use Rattle.dms_codes.specs.declared.codes.Activation.{Activation}
use Rattle.dms_sign.specs.Requests.{may_write}
use Rattle.dms_sign.specs.Reply as sign
use Rattle.dms_sign.specs.ReplyView.{is_addressed}
use Rattle.dms_device.specs.declared.fault.BindingFault.{BindingFault}
use Rattle.dms_device.specs.Setting.{are_all_named, refusal_of, written_unless}
use Rattle.dms_agent.specs.declared.agent.Agent.{Agent}
use Rattle.dms_agent.specs.Values.{agent_value, agent_after}

-- the reply, the agent after it, and the activation that was accepted
pub record AgentReceived : Type 0 where
  pub reply : Option (List ℕ)
  pub after : Agent
  pub accepted : Option Activation

-- Nothing is sent, and nothing changes.
abbrev pub dropped : Agent → AgentReceived
dropped a = record { reply = None; after = a; accepted = None }

-- what came of it for the sign: all else stays
abbrev pub of_sign : Agent → sign.Received → AgentReceived
of_sign a r = record { reply = r.reply; after = record a { sign = r.after }; accepted = r.accepted }

-- these octets are sent: the sign's silence is over, and all else stays
abbrev pub read : Agent → List ℕ → AgentReceived
read a octets = record { reply = Some octets; after = record a { sign = sign.after_get a.sign }; accepted = None }

-- ---- a Set

-- it repeats the bindings, without an error or with that for which the Set is refused
abbrev pub set_reply : SnmpMessage → Option BindingFault → List ℕ
set_reply m None = reply_with m 0 0 m.bindings
set_reply m (Some refusal) = reply_with m (error_status_number refusal.status) refusal.index m.bindings

-- A Set of the device's is judged and assigned at once; the sign's silence is over.
abbrev pub device_set : Agent → SnmpMessage → Option BindingFault → AgentReceived
device_set a m refusal = record {
  reply = Some (set_reply m refusal);
  after = record a { sign = sign.after_get a.sign; device = written_unless a.device m.bindings refusal };
  accepted = None;
}

-- A Set whose names are all those of the device's objects is the device's, and any other the sign's.
abbrev pub agent_set : Agent → SnmpMessage → AgentReceived
agent_set a m =
    if are_all_named a.device m.bindings then device_set a m (refusal_of a.device (may_write a.sign m) m.bindings)
    else of_sign a (sign.heard a.sign m)

-- ---- any message

-- what comes of a message that is for the sign, by its kind
abbrev pub agent_answered : Agent → SnmpMessage → Kind → AgentReceived
agent_answered a m Get = read a (get_reply (agent_value a) m)
agent_answered a m GetNext = read a (get_next_reply (agent_after a) m)
agent_answered a m Response = dropped a
agent_answered a m Set = agent_set a m

-- An agent hears what its sign hears: with power, and of its two communities.
abbrev pub on_message : Agent → SnmpMessage → AgentReceived
on_message a m = if is_addressed a.sign m then agent_answered a m m.kind else dropped a

abbrev pub on_message_if : Agent → Option SnmpMessage → AgentReceived
on_message_if a None = dropped a
on_message_if a (Some m) = on_message a m

-- what comes of a datagram; octets that spell no message are dropped
unfoldable pub agent_received : Agent → List ℕ → AgentReceived
agent_received a octets = on_message_if a (message_of octets)
