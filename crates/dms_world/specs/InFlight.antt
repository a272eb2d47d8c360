-- What holds at every moment between two ends, of what is stored and of what is in flight (this profile).
use Rattle.std.specs.Prelude.{◌≡◌, ℕ, pos, suc, ◌<◌, List, length, slice_get, Some}
use Rattle.std.specs.List.{Contains}
use Rattle.dms_wire.specs.declared.message.Kind.TheVariants.{Set}
use Rattle.dms_wire.specs.declared.error_status.ErrorStatus.TheVariants.{NoError}
use Rattle.dms_wire.specs.ErrorStatus.{error_status_number}
use Rattle.dms_wire.specs.Message.{SnmpMessage}
use Rattle.dms_wire.specs.MessageOf.{message_of}
use Rattle.dms_codes.specs.Codes.{activation_of}
use Rattle.dms_sign.specs.Promises.{activates}
use Rattle.dms_sign.specs.Reply.{received as sign_received}
use Rattle.dms_centre_jobs.specs.Job.{Job}
use Rattle.dms_centre.specs.State.{Pending, Awaits}
use Rattle.dms_centre_laws.specs.RequestNumbers.{HasNumber}
use Rattle.dms_world.specs.Event.{EventModel, to_sign, forge_sign}
use Rattle.dms_world.specs.World.{WorldModel, world_at, world_after}
use Rattle.dms_world.specs.Backed.{Has, IsBackedAt}

-- the copy that a sign keeps at a loss of power is blank, or a validated message, as what is shown is
abbrev pub KeptIsBacked : WorldModel → List EventModel → Type 0
KeptIsBacked world events = IsBackedAt world events (length events) (world_after world events).sign.shown_at_power_loss

-- The reply is what the sign sent at an event that handed over a request, and has that request's number.
pub record WasReplied (world : WorldModel) (events : List EventModel) (reply : List ℕ) : Type 0 where
  pub before : ℕ
  pub place : ℕ
  pub event : slice_get events before ≡ Some (to_sign place)
  pub datagram : List ℕ
  pub handed : slice_get (world_at world events before).to_sign place ≡ Some datagram
  pub answered : (sign_received (world_at world events before).sign datagram).reply ≡ Some reply
  pub request : SnmpMessage
  pub asked : message_of datagram ≡ Some request
  pub response : SnmpMessage
  pub spelled : message_of reply ≡ Some response
  pub number : response.request ≡ request.request

-- each datagram to the centre is the sign's answer to the request of its number
abbrev pub RepliesAreTheSigns : WorldModel → List EventModel → Type 0
RepliesAreTheSigns world events = (reply : List ℕ) → Has (world_after world events).to_centre reply
    → WasReplied world events reply

-- The event that follows on so many others hands the sign this datagram: one that the centre sent, or a forged one.
pub data IsHanded (world : WorldModel) (events : List EventModel) (before : ℕ) (datagram : List ℕ) : Type 0 where
  was_sent : (place : ℕ) → slice_get events before ≡ Some (to_sign place)
      → slice_get (world_at world events before).to_sign place ≡ Some datagram → IsHanded world events before datagram
  was_forged : slice_get events before ≡ Some (forge_sign datagram) → IsHanded world events before datagram

-- At that event the sign answered a SET, a binding of which sets dmsActivateMessage to these octets, with this
-- Response.
pub record AnswersActivation (world : WorldModel) (events : List EventModel) (before : ℕ) (octets : List ℕ)
    (response : SnmpMessage) : Type 0 where
  pub datagram : List ℕ
  pub handed : IsHanded world events before datagram
  pub request : SnmpMessage
  pub asked : message_of datagram ≡ Some request
  pub sets : request.kind ≡ Set
  pub binding : Contains request.bindings (activates octets)
  pub reply : List ℕ
  pub answered : (sign_received (world_at world events before).sign datagram).reply ≡ Some reply
  pub spelled : message_of reply ≡ Some response

-- each noError to an activation has its code among those that the sign accepted, at its event
abbrev pub NoErrorWasAccepted : WorldModel → List EventModel → Type 0
NoErrorWasAccepted world events =
    (before : ℕ) (octets : List ℕ) (response : SnmpMessage) → AnswersActivation world events before octets response
    → response.status ≡ pos (error_status_number NoError)
    → Has (world_after world events).accepted (suc before, activation_of world.sign.table.order octets)

-- the number of each datagram to the sign is below the next one
abbrev pub NumbersAreBelowNext : WorldModel → List EventModel → Type 0
NumbersAreBelowNext world events =
    (datagram : List ℕ) (number : ℕ) → Has (world_after world events).to_sign datagram → HasNumber number datagram
    → number < (world_after world events).centre.next

-- the octets of the request that the centre waits for
abbrev pub WaitingWasSent : WorldModel → List EventModel → Type 0
WaitingWasSent world events =
    (job : Job) (pending : Pending) → (world_after world events).centre.phase ≡ Awaits job pending
    → Has (world_after world events).to_sign pending.octets
