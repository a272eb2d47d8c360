-- Where nothing is forged, each reply that was sent is what the sign answered to a datagram of the centre, at an event that handed it over.
use Rattle.std.proofs.Common.{◌≡◌, ℕ, zero, suc, ◌<◌, ◌⊎◌, Bool, true, false, cond, List, [], ◌++◌, length, Option, Some, None, option_to_list, slice_get, refl, ap, arith, append-nil}
use Rattle.std.specs.Prelude.{pos}
use Rattle.std.proofs.lemmas.Bool.{le-leb}
use Rattle.dms_wire.specs.ErrorStatus.{error_status_number}
use Rattle.dms_wire.specs.declared.message.Kind.TheVariants.{Set}
use Rattle.dms_wire.specs.Message.{SnmpMessage}
use Rattle.dms_wire.specs.MessageOf.{message_of}
use Rattle.dms_wire.specs.Response.{response_to}
use Rattle.dms_wire.proofs.MessageOfLaws.{read_is_spelled}
use Rattle.dms_wire.proofs.ShorterSpellings.{response_no_longer}
use Rattle.dms_sign.specs.State.{SignState}
use Rattle.dms_sign.specs.Reply.{too_big}
use Rattle.dms_sign.specs.Requests.{Answer, answer_of_any_size}
use Rattle.dms_sign.specs.Reply as sign_reply
use Rattle.dms_sign.specs.Reply.{response_of, is_heard, heard, dropped}
use Rattle.dms_sign.specs.Reply.{response_sent}
use Rattle.dms_sign.proofs.Replies.{is_set_answer}
use Rattle.dms_centre_laws.proofs.Lists.{in_push}
use Rattle.dms_world.specs.Event.{EventModel, command, sign_tick, centre_tick, to_sign, to_centre, power_lost, power_back, centre_restart, forge_sign, forge_centre}
use Rattle.dms_world.specs.World.{WorldModel, by_sign, at_sign, at_centre, happens, happens_if, world_at, IsFresh}
use Rattle.dms_world.specs.Headline.{is_forged, NothingIsForged}

-- ---- what a sign does with a datagram

heard_if : (s : SignState) (m : SnmpMessage) (b : Bool) (reply : List ℕ) → (cond b (heard s m) (dropped s)).reply ≡ Some reply
    → cond b (heard s m) (dropped s) ≡ heard s m
heard_if s m true reply e = refl
heard_if s m false reply e = absurd (cc)

-- a datagram that spells a message and is answered is heard
pub heard_message : (s : SignState) (datagram reply : List ℕ) (m : SnmpMessage) → (sign_reply.received s datagram).reply ≡ Some reply
    → message_of datagram ≡ Some m → sign_reply.received s datagram ≡ heard s m
unfolding sign_reply.received
heard_message s datagram reply m e spelled = grind arith

-- the sign had power, and the request was of one of its communities
pub answered_is_heard : (s : SignState) (datagram reply : List ℕ) (m : SnmpMessage) → (sign_reply.received s datagram).reply ≡ Some reply
    → message_of datagram ≡ Some m → is_heard s m ≡ true
unfolding sign_reply.received
answered_is_heard s datagram reply m e spelled = grind arith

-- ---- the status that a reply reports

status_by : (m : SnmpMessage) (a : Answer) (b : Bool) → b ≡ true → (cond b (response_of m a) (response_to m too_big 0)).status ≡ pos (error_status_number a.status)
status_by m a b e = grind arith

-- of a SET of one binding it is that of what is answered
pub status_reported : (s : SignState) (m : SnmpMessage) (datagram : List ℕ) → message_of datagram ≡ Some m → m.kind ≡ Set → length m.bindings ≡ 1
    → (response_sent m (answer_of_any_size s m)).status ≡ pos (error_status_number (answer_of_any_size s m).status)
status_reported s m datagram spelled set one = grind (arith, is_set_answer, read_is_spelled, response_no_longer, status_by, le-leb)

-- ---- replies in flight

-- the reply is what the sign answered at an event that handed over a datagram
pub record IsAnswered (world : WorldModel) (events : List EventModel) (count : ℕ) (reply : List ℕ) : Type 0 where
  pub before : ℕ
  pub earlier : before < count
  pub place : ℕ
  pub event : slice_get events before ≡ Some (to_sign place)
  pub datagram : List ℕ
  pub handed : slice_get (world_at world events before).to_sign place ≡ Some datagram
  pub answered : (sign_reply.received (world_at world events before).sign datagram).reply ≡ Some reply

abbrev pub AllAreAnswered : WorldModel → List EventModel → ℕ → List (List ℕ) → Type 0
AllAreAnswered world events count replies = (place : ℕ) (reply : List ℕ) → slice_get replies place ≡ Some reply → IsAnswered world events count reply

-- an element of a list that has one more at most
in_more : {X : Type 0} (xs : List X) (o : Option X) (place : ℕ) (x : X) → slice_get (xs ++ option_to_list o) place ≡ Some x
    → (slice_get xs place ≡ Some x) ⊎ (o ≡ Some x)
in_more xs o place x e = grind (arith, slice_get, append-nil, in_push)

later_answered : (world : WorldModel) (events : List EventModel) (count : ℕ) (reply : List ℕ) → IsAnswered world events count reply
    → IsAnswered world events (suc count) reply
later_answered world events count reply is = grind arith

still_answered : (world : WorldModel) (events : List EventModel) (count : ℕ) (replies : List (List ℕ)) → AllAreAnswered world events count replies
    → AllAreAnswered world events (suc count) replies
still_answered world events count replies all place reply e = later_answered world events count reply (all place reply e)

-- a datagram is handed over to the sign
newly_answered : (world : WorldModel) (events : List EventModel) (count at : ℕ) (o : Option (List ℕ))
    → AllAreAnswered world events count (world_at world events count).to_centre
    → slice_get events count ≡ Some (to_sign at) → slice_get (world_at world events count).to_sign at ≡ o
    → AllAreAnswered world events (suc count) (at_sign (suc count) (world_at world events count) o).to_centre
newly_answered world events count at o all event handed place reply e = grind (arith, later_answered, in_more)

centre_answered : (world : WorldModel) (events : List EventModel) (count : ℕ) (o : Option (List ℕ))
    → AllAreAnswered world events count (world_at world events count).to_centre
    → AllAreAnswered world events (suc count) (at_centre (world_at world events count) o).to_centre
centre_answered world events count o all = grind (arith, still_answered)

event_answered : (world : WorldModel) (events : List EventModel) (count : ℕ) (event : EventModel)
    → AllAreAnswered world events count (world_at world events count).to_centre
    → slice_get events count ≡ Some event → is_forged event ≡ false
    → AllAreAnswered world events (suc count) (happens (suc count) (world_at world events count) event).to_centre
event_answered world events count (command asked) all e fair = still_answered world events count (world_at world events count).to_centre all
event_answered world events count sign_tick all e fair = still_answered world events count (world_at world events count).to_centre all
event_answered world events count centre_tick all e fair = still_answered world events count (world_at world events count).to_centre all
event_answered world events count (to_sign place) all e fair = grind (arith, still_answered, newly_answered, slice_get, centre_answered)
event_answered world events count (to_centre place) all e fair = grind (arith, still_answered, newly_answered, slice_get, centre_answered)
event_answered world events count power_lost all e fair = still_answered world events count (world_at world events count).to_centre all
event_answered world events count (power_back seconds) all e fair = still_answered world events count (world_at world events count).to_centre all
event_answered world events count centre_restart all e fair = still_answered world events count (world_at world events count).to_centre all
event_answered world events count (forge_sign datagram) all e fair = absurd (cc)
event_answered world events count (forge_centre datagram) all e fair = absurd (cc)

answered_if : (world : WorldModel) (events : List EventModel) (count : ℕ) (o : Option EventModel) → NothingIsForged events
    → AllAreAnswered world events count (world_at world events count).to_centre
    → slice_get events count ≡ o → AllAreAnswered world events (suc count) (happens_if (suc count) (world_at world events count) o).to_centre
answered_if world events count None fair all e = still_answered world events count (world_at world events count).to_centre all
answered_if world events count (Some event) fair all e = event_answered world events count event all e (fair event (count, e))

none_answered : (world : WorldModel) (events : List EventModel) → world.to_centre ≡ [] → AllAreAnswered world events zero world.to_centre
none_answered world events p place reply e = grind arith

pub answered_at : (world : WorldModel) (events : List EventModel) → IsFresh world → NothingIsForged events → (count : ℕ)
    → AllAreAnswered world events count (world_at world events count).to_centre
answered_at world events fresh fair zero = none_answered world events (ap (λ (w : WorldModel). w.to_centre) fresh.is_beginning)
answered_at world events fresh fair (suc count) = grind (arith, none_answered, answered_if, slice_get, answered_at world events fresh fair count)

-- ---- the world after an event that hands a datagram over to the sign

pub turned : (world : WorldModel) (events : List EventModel) (before place : ℕ) (datagram : List ℕ) → slice_get events before ≡ Some (to_sign place)
    → slice_get (world_at world events before).to_sign place ≡ Some datagram
    → world_at world events (suc before)
    ≡ by_sign (suc before) (world_at world events before) (sign_reply.received (world_at world events before).sign datagram)
turned world events before place datagram event handed = grind arith
