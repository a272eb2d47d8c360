-- What holds of every reply, and of every activation that is accepted (RFC 1157, 4.1, and this profile).
use Rattle.std.specs.Prelude.{◌≡◌, ℕ, Bool, true, false, IsTrue, List, length, Some}
use Rattle.std.specs.List.{Contains}
use Rattle.dms_wire.specs.declared.message.Kind.{Kind}
use Rattle.dms_wire.specs.declared.message.Kind.TheVariants.{Get, GetNext, Response, Set}
use Rattle.dms_wire.specs.Message.{octet_string, VarBind, SnmpMessage}
use Rattle.dms_wire.specs.MessageOf.{message_of}
use Rattle.dms_wire.specs.Canonical.{canonical}
use Rattle.dms_codes.specs.declared.codes.Activation.{Activation}
use Rattle.dms_mib.specs.Names.{activate_message}
use Rattle.dms_codes.specs.Codes.{activation_of}
use Rattle.dms_sign.specs.State.{SignState}
use Rattle.dms_sign.specs.Reply.{is_request}

-- octets are those of a Response with the request's community and request-id (RFC 1157, 4.1)
pub record IsResponseTo (request : SnmpMessage) (octets : List ℕ) : Type 0 where
  pub response : SnmpMessage
  pub kind : response.kind ≡ Response
  pub community : response.community ≡ request.community
  pub number : response.request ≡ request.request
  pub written : octets ≡ canonical response

-- a datagram spells a request, and this is a reply to it
pub record IsReplyTo (datagram reply : List ℕ) : Type 0 where
  pub request : SnmpMessage
  pub spelled : message_of datagram ≡ Some request
  pub asks : IsTrue (is_request request.kind)
  pub responds : IsResponseTo request reply

-- a Get or a GetNext
abbrev pub is_get : Kind → Bool
is_get Get = true
is_get GetNext = true
is_get Response = false
is_get Set = false

-- a binding that sets dmsActivateMessage
abbrev pub activates : List ℕ → VarBind
activates octets = record { name = activate_message; value = octet_string octets }

-- a binding of the message sets dmsActivateMessage to the twelve octets of this activation
pub record AsksFor (s : SignState) (m : SnmpMessage) (activation : Activation) : Type 0 where
  pub octets : List ℕ
  pub size : length octets ≡ 12
  pub binding : Contains m.bindings (activates octets)
  pub is : activation ≡ activation_of s.table.order octets
