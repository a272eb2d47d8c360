-- A noError to an activation has its code among those that the sign accepted.
use Rattle.std.proofs.Common.{◌≡◌, ℕ, suc, ◌<◌, Bool, cond, List, [], ◌∷◌, ◌++◌, length, Some, slice_get, sym, ap, ◌∙◌, subst, arith}
use Rattle.std.specs.Prelude.{pos, nat_le}
use Rattle.std.proofs.lemmas.Option.{same_Some, slice_get_within}
use Rattle.dms_wire.specs.declared.error_status.ErrorStatus.TheVariants.{NoError}
use Rattle.dms_wire.specs.ErrorStatus.{error_status_number}
use Rattle.dms_wire.specs.Message.{SnmpMessage}
use Rattle.dms_wire.specs.Canonical.{canonical}
use Rattle.dms_wire.specs.Response.{response_to}
use Rattle.dms_codes.specs.declared.codes.Activation.{Activation}
use Rattle.dms_codes.specs.Codes.{activation_of}
use Rattle.dms_sign.specs.State.{SignState}
use Rattle.dms_sign.specs.Requests.{Answer, answer_of_any_size}
use Rattle.dms_sign.specs.Reply as sign_reply
use Rattle.dms_wire_ber.specs.Limits.{longest_datagram}
use Rattle.dms_sign.specs.Reply.{response_of, too_big, heard}
use Rattle.dms_sign.specs.InRange.{IsSpelledReply}
use Rattle.dms_sign.specs.Reply.{response_sent}
use Rattle.dms_sign_laws.proofs.AcceptedAmong.{accepted_among}
use Rattle.dms_sign_laws.proofs.InRangeReplies.{replies_spell_their_response}
use Rattle.dms_centre_laws.proofs.Lists.{at_end}
use Rattle.dms_world.specs.Event.{EventModel}
use Rattle.dms_world.specs.World.{WorldModel, noted, by_sign, happens_if, world_at, world_after, IsFresh}
use Rattle.dms_world.specs.Backed.{Has}
use Rattle.dms_world.specs.InFlight.{IsHanded, was_sent, was_forged, AnswersActivation, NoErrorWasAccepted}
use Rattle.dms_world.proofs.WorldSignSound.{sound_at}
use Rattle.dms_world.proofs.WorldGrows.{grows_until}
use Rattle.dms_world.proofs.WorldHonestRange.{in_range_at}
use Rattle.dms_world.proofs.WorldReplies.{heard_message, turned}

-- ---- the event

within : (world : WorldModel) (events : List EventModel) (before : ℕ) (datagram : List ℕ) → IsHanded world events before datagram → before < length events
within world events before datagram p = grind (arith, slice_get_within)

-- the world after it
after_it : (world : WorldModel) (events : List EventModel) (before : ℕ) (datagram : List ℕ) → IsHanded world events before datagram
    → world_at world events (suc before)
    ≡ by_sign (suc before) (world_at world events before) (sign_reply.received (world_at world events before).sign datagram)
after_it world events before datagram (was_sent place event handed) = turned world events before place datagram event handed
after_it world events before datagram (was_forged event) = ap (happens_if (suc before) (world_at world events before)) event

-- ---- the status

-- a Response of noError is none that says that the answer is too big
no_error_if : (m : SnmpMessage) (a : Answer) (b : Bool) → (cond b (response_of m a) (response_to m too_big 0)).status ≡ pos (error_status_number NoError)
    → a.status ≡ NoError
no_error_if m a b e = grind arith

no_error : (m : SnmpMessage) (a : Answer) → (response_sent m a).status ≡ pos (error_status_number NoError) → a.status ≡ NoError
no_error m a e = no_error_if m a (nat_le (length (canonical (response_of m a))) longest_datagram) e

-- ---- the list

-- what the sign accepted at the event
accepted_then : (world : WorldModel) (events : List EventModel) → IsFresh world → (before : ℕ) (octets : List ℕ) (response : SnmpMessage)
    → (was : AnswersActivation world events before octets response) → response.status ≡ pos (error_status_number NoError)
    → (sign_reply.received (world_at world events before).sign was.datagram).accepted ≡ Some (activation_of world.sign.table.order octets)
accepted_then world events fresh before octets response was zero =
    let s : SignState = (world_at world events before).sign in
    let reads : IsSpelledReply s was.datagram was.reply =
    replies_spell_their_response s was.datagram was.reply (in_range_at world events fresh before) was.answered in
    let requested : reads.request ≡ was.request = same_Some reads.request was.request (sym reads.asked ∙ was.asked) in
    let responded : reads.response ≡ response = same_Some reads.response response (sym reads.spelled ∙ was.spelled) in
    let meant : response_sent was.request (answer_of_any_size s was.request) ≡ response =
    ap (λ (m : SnmpMessage). response_sent m (answer_of_any_size s m)) (sym requested) ∙ sym reads.meant ∙ responded in
    let none : (answer_of_any_size s was.request).status ≡ NoError =
    no_error was.request (answer_of_any_size s was.request) (ap (λ (m : SnmpMessage). m.status) meant ∙ zero) in
    let hears : sign_reply.received s was.datagram ≡ heard s was.request = heard_message s was.datagram was.reply was.request was.answered was.asked in
    ap (λ (r : sign_reply.Received). r.accepted) hears
    ∙ accepted_among s was.request octets was.sets was.binding none
    ∙ ap (λ order. Some (activation_of order octets)) (sound_at world events fresh before).order

listed : (world : WorldModel) (events : List EventModel) (before : ℕ) (datagram : List ℕ) (code : Activation) → IsHanded world events before datagram
    → (sign_reply.received (world_at world events before).sign datagram).accepted ≡ Some code → Has (world_after world events).accepted (suc before, code)
listed world events before datagram code handed accepted =
    let now : WorldModel = world_at world events before in
    let list : (world_at world events (suc before)).accepted ≡ now.accepted ++ (suc before, code) ∷ [] =
    ap (λ (w : WorldModel). w.accepted) (after_it world events before datagram handed) ∙ ap (λ o. now.accepted ++ noted (suc before) o) accepted in
    let there : slice_get (world_at world events (suc before)).accepted (length now.accepted) ≡ Some (suc before, code) =
    subst (λ xs. slice_get xs (length now.accepted) ≡ Some (suc before, code)) (sym list) (at_end now.accepted (suc before, code)) in (
      length now.accepted,
      (grows_until world events (suc before) (length events) (omega (arith, within world events before datagram handed))).accepted (length now.accepted) _ there,
    )

pub no_error_was_accepted : (world : WorldModel) (events : List EventModel) → IsFresh world → NoErrorWasAccepted world events
no_error_was_accepted world events fresh = λ before octets response was zero.
    listed world events before was.datagram (activation_of world.sign.table.order octets) was.handed
    (accepted_then world events fresh before octets response was zero)
