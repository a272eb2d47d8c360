-- The reply to a message, and what comes of a datagram (RFC 1157, 4.1).
use Rattle.std.specs.Prelude.{◌&&◌, ◌||◌, Bool, true, false, if◌then◌else◌, List, ℕ, Option, Some, None}
use Rattle.dms_wire.specs.declared.message.Kind.{Kind}
use Rattle.dms_wire.specs.declared.message.Kind.TheVariants.{Get, GetNext, Response, Set}
use Rattle.dms_wire.specs.ErrorStatus.{error_status_number}
use Rattle.dms_wire.specs.Message.{SnmpMessage}
use Rattle.dms_wire.specs.MessageOf.{message_of}
use Rattle.dms_wire.specs.Canonical.{canonical}
use Rattle.dms_wire.specs.Response.{response_to}
pub use Rattle.dms_mib_replies.specs.Replies.{too_big, or_too_big}
use Rattle.dms_codes.specs.declared.codes.Activation.{Activation}
use Rattle.dms_sign.specs.State.{SignState}
use Rattle.dms_sign.specs.Requests.{Answer, is_community, answer_of_any_size}

-- ---- replies

-- the Response that says it
abbrev pub response_of : SnmpMessage → Answer → SnmpMessage
response_of m answer =
    record (response_to m (error_status_number answer.status) answer.index) { bindings = answer.bindings }

-- the Response that is sent
abbrev pub response_sent : SnmpMessage → Answer → SnmpMessage
response_sent m answer = or_too_big m (response_of m answer)

-- its octets
unfoldable pub reply_to : SnmpMessage → Answer → List ℕ
reply_to m answer = canonical (response_sent m answer)

-- ---- datagrams

abbrev pub is_request : Kind → Bool
is_request Get = true
is_request GetNext = true
is_request Response = false
is_request Set = true

-- A sign with power hears requests of its two communities.
abbrev pub is_heard : SignState → SnmpMessage → Bool
is_heard s m = s.powered && is_request m.kind
    && (is_community m.community s.config.reader || is_community m.community s.config.writer)

-- what comes of a datagram: the reply, the state after it, and the activation that was accepted
pub record Received : Type 0 where
  pub reply : Option (List ℕ)
  pub after : SignState
  pub accepted : Option Activation

-- Nothing is sent, and nothing changes.
abbrev pub dropped : SignState → Received
dropped s = record { reply = None; after = s; accepted = None }

-- a datagram that is answered ends the silence
abbrev pub awake : SignState → SignState
awake s = record s { silent_seconds = 0 }

-- What a Get or a GetNext that is answered leaves: the silence is over, and all else is as it was. A sign without power
-- answers none, and stays as it is.
abbrev pub after_get : SignState → SignState
after_get s = if s.powered then awake s else s

abbrev pub heard : SignState → SnmpMessage → Received
heard s m = record {
  reply = Some (reply_to m (answer_of_any_size s m));
  after = awake (answer_of_any_size s m).after;
  accepted = (answer_of_any_size s m).accepted;
}

abbrev pub on_message : SignState → SnmpMessage → Received
on_message s m = if is_heard s m then heard s m else dropped s

abbrev pub after_message : SignState → SnmpMessage → SignState
after_message s m = (on_message s m).after

abbrev pub on_message_if : SignState → Option SnmpMessage → Received
on_message_if s None = dropped s
on_message_if s (Some m) = on_message s m

-- what comes of a datagram; octets that spell no message are dropped
unfoldable pub received : SignState → List ℕ → Received
received s octets = on_message_if s (message_of octets)
