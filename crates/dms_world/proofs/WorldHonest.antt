-- What the ledger says of a code is what the sign did with it, where nothing is forged.
use Rattle.std.proofs.Common.{◌≡◌, ◌≢◌, ℕ, suc, ◌<◌, ◌≤◌, inl, inr, true, false, List, [], ◌∷◌, ◌++◌, length, Some, slice_get, refl, sym, ap, ◌∙◌, subst, arith}
use Rattle.std.specs.Prelude.{ℤ, pos}
use Rattle.std.specs.List.{Contains}
use Rattle.std.proofs.lemmas.Option.{same_Some}
use Rattle.dms_wire.specs.ErrorStatus.{error_status_number}
use Rattle.dms_wire.specs.declared.error_status.ErrorStatus.{ErrorStatus}
use Rattle.dms_wire.specs.declared.error_status.ErrorStatus.TheVariants.{NoError}
use Rattle.dms_wire.specs.declared.message.Kind.TheVariants.{Set}
use Rattle.dms_wire.specs.Message.{SnmpMessage}
use Rattle.dms_wire.specs.MessageOf.{message_of}
use Rattle.dms_wire.specs.Limits.{AreBindingsInLimits}
use Rattle.dms_wire.proofs.LimitsLaws.{spelled_in_limits}
use Rattle.dms_wire.proofs.MessageOfLaws.{read_is_spelled}
use Rattle.dms_codes.specs.declared.codes.Activation.{Activation}
use Rattle.dms_codes.specs.Codes.{octets_of_activation, activation_of}
use Rattle.dms_codes.specs.Memory.{current_buffer, blank_memory}
use Rattle.dms_sign.specs.State.{SignState}
use Rattle.dms_sign.specs.Requests.{answer_of_any_size}
use Rattle.dms_sign.specs.Reply as sign_reply
use Rattle.dms_sign.specs.Reply.{heard, is_heard}
use Rattle.dms_sign.specs.InRange.{IsSpelledReply}
use Rattle.dms_sign.specs.Reply.{response_sent}
use Rattle.dms_sign.specs.Promises.{activates}
use Rattle.dms_sign_laws.proofs.Accepted.{accepted_was_asked_for, accepted_where_no_error}
use Rattle.dms_sign_laws.proofs.InRangeReplies.{replies_spell_their_response}
use Rattle.dms_centre.specs.declared.outcome.Outcome.TheVariants.{Accepted, Refused}
use Rattle.dms_centre_jobs.specs.declared.step.Step.TheVariants.{Activating}
use Rattle.dms_centre_jobs.specs.Job.{Showing}
use Rattle.dms_centre.specs.State.{Entry}
use Rattle.dms_centre_jobs.specs.Steps.{request_of}
use Rattle.dms_centre_laws.specs.RequestNumbers.{HasNumber}
use Rattle.dms_centre_laws.specs.Ledger.{Answers, PutsUp}
use Rattle.dms_centre_laws.proofs.Lists.{at_end}
use Rattle.dms_world.specs.Event.{EventModel, to_sign, forge_centre}
use Rattle.dms_world.specs.World.{WorldModel, noted, by_sign, world_at, world_after, IsFresh}
use Rattle.dms_world.specs.Backed.{Has}
use Rattle.dms_world.specs.Headline.{AreEvents, NothingIsForged, LedgerIsTrue}
use Rattle.dms_world.specs.Honest.{WasSent, WasDelivered, WasAnswered, shown_checksum, WasAccepted, WasRefused, AcceptedWasAccepted, RefusedWasRefused}
use Rattle.dms_world.proofs.WorldSignSound.{sound_at}
use Rattle.dms_world.proofs.WorldNumbers.{codes_at}
use Rattle.dms_world.proofs.WorldGrows.{grows_until}
use Rattle.dms_world.proofs.WorldOrders.{CameBy}
use Rattle.dms_world.proofs.WorldSent.{first_sent}
use Rattle.dms_world.proofs.WorldReported.{WasHeard, WasReported, reported_at}
use Rattle.dms_world.proofs.WorldHonestRange.{in_range_at}
use Rattle.dms_world.proofs.WorldReplies.{heard_message, answered_is_heard, status_reported, answered_at, turned}
use Rattle.dms_world.proofs.WorldHonestPutUp.{accepted_is_up}
use Rattle.dms_world.proofs.WorldHonestCodes.{octets_back, alike}

-- ---- the request that puts a code up

abbrev request_for : WorldModel → ℕ → Activation → SnmpMessage
request_for world number code = request_of world.centre.settings number (Showing code) Activating

abbrev octets_for : WorldModel → Activation → List ℕ
octets_for world code = octets_of_activation world.centre.settings.order code

request_kind : (world : WorldModel) (number : ℕ) (code : Activation) → (request_for world number code).kind ≡ Set
unfolding request_of
request_kind world number code = refl

request_bindings : (world : WorldModel) (number : ℕ) (code : Activation) → (request_for world number code).bindings ≡ activates (octets_for world code) ∷ []
unfolding request_of
request_bindings world number code = refl

request_number : (world : WorldModel) (number : ℕ) (code : Activation) → (request_for world number code).request ≡ pos number
unfolding request_of
request_number world number code = refl

-- ---- an answer to it

-- the sign answered the request with this status, at an event that handed it over
record IsAnsweredWith (world : WorldModel) (events : List EventModel) (count number : ℕ) (code : Activation) (status : ℤ) : Type 0 where
  before : ℕ
  earlier : before < count
  place : ℕ
  event : slice_get events before ≡ Some (to_sign place)
  datagram : List ℕ
  handed : slice_get (world_at world events before).to_sign place ≡ Some datagram
  puts_up : PutsUp world.centre.settings number code datagram
  hears : is_heard (world_at world events before).sign (request_for world number code) ≡ true
  heard_is : sign_reply.received (world_at world events before).sign datagram ≡ heard (world_at world events before).sign (request_for world number code)
  status_is : pos (error_status_number (answer_of_any_size (world_at world events before).sign (request_for world number code)).status) ≡ status

-- each datagram that the centre had sent with this number puts this code up
abbrev AllPutUp : WorldModel → List EventModel → ℕ → ℕ → Activation → Type 0
AllPutUp world events count number code =
    (place : ℕ) (datagram : List ℕ) → slice_get (world_at world events count).to_sign place ≡ Some datagram → HasNumber number datagram
    → PutsUp world.centre.settings number code datagram

-- a Response in flight to the request is the sign's
answered_by_the_sign : (world : WorldModel) (events : List EventModel) → IsFresh world → NothingIsForged events → (count number : ℕ) (code : Activation)
    → (octets : List ℕ) (reply : SnmpMessage) → Has (world_at world events count).to_centre octets → message_of octets ≡ Some reply
    → Answers world.centre.settings number reply → AllPutUp world events count number code
    → IsAnsweredWith world events count number code reply.status
answered_by_the_sign world events fresh fair count number code octets reply there spelled answers all =
    let is = answered_at world events fresh fair count there.0 octets there.1 in
    let s : SignState = (world_at world events is.before).sign in
    let request : SnmpMessage = request_for world number code in
    let reads : IsSpelledReply s is.datagram octets =
    replies_spell_their_response s is.datagram octets (in_range_at world events fresh is.before) is.answered in
    let same : reads.response ≡ reply = same_Some reads.response reply (sym reads.spelled ∙ spelled) in
    let number_is : reads.request.request ≡ pos number = sym reads.number ∙ ap (λ (m : SnmpMessage). m.request) same ∙ answers.request in
    let now = (grows_until world events is.before count (omega (arith, is.earlier))).to_sign is.place is.datagram is.handed in
    let up : PutsUp world.centre.settings number code is.datagram =
    all is.place is.datagram now (record { message = reads.request; spelled = reads.asked; is = number_is }) in
    let requested : reads.request ≡ request = same_Some reads.request request (sym reads.asked ∙ up) in
    let meant : response_sent request (answer_of_any_size s request) ≡ reply =
    ap (λ (m : SnmpMessage). response_sent m (answer_of_any_size s m)) (sym requested) ∙ sym reads.meant ∙ same in
    let one : length request.bindings ≡ 1 = ap length (request_bindings world number code) in
    record {
      before = is.before;
      earlier = is.earlier;
      place = is.place;
      event = is.event;
      datagram = is.datagram;
      handed = is.handed;
      puts_up = up;
      hears = answered_is_heard s is.datagram octets request is.answered up;
      heard_is = heard_message s is.datagram octets request is.answered up;
      status_is = sym (status_reported s request is.datagram up (request_kind world number code) one) ∙ ap (λ (m : SnmpMessage). m.status) meant;
    }

-- ---- what was reported to the centre

-- what the centre heard is in flight
in_flight : (world : WorldModel) (events : List EventModel) → NothingIsForged events → (count : ℕ) (octets : List ℕ)
    → CameBy (world_at world events count) (slice_get events count) octets → Has (world_at world events count).to_centre octets
in_flight world events fair count octets came =
    elim came [
      | inl handed ↦ (handed.place, handed.there)
      | inr forged ↦ (let not : true ≡ false = fair (forge_centre octets) (count, forged) in absurd (cc not))
    ]

later_answer : (world : WorldModel) (events : List EventModel) (count later number : ℕ) (code : Activation) (status : ℤ) → count ≤ later
    → IsAnsweredWith world events count number code status → IsAnsweredWith world events later number code status
later_answer world events count later number code status le was = grind arith

-- the reply that reported it was the sign's
answer_heard : (world : WorldModel) (events : List EventModel) → IsFresh world → AreEvents events → NothingIsForged events → (count number : ℕ)
    → (code : Activation) (status : ℤ) (was : WasHeard world events count number code) → was.reply.status ≡ status
    → IsAnsweredWith world events count number code status
answer_heard world events fresh are fair count number code status was e =
    let all : AllPutUp world events was.before number code =
    λ place datagram sent has. codes_at world events fresh are was.before was.waited.0 place _ datagram was.waited.1 sent has in
    let there = in_flight world events fair was.before was.datagram was.came in
    let answer = answered_by_the_sign world events fresh fair was.before number code was.datagram was.reply there was.spelled was.answers all in
    later_answer world events was.before count number code status (omega (arith, was.less))
    (subst (IsAnsweredWith world events was.before number code) e answer)

-- ---- the request was delivered

delivered : (world : WorldModel) (events : List EventModel) → IsFresh world → AreEvents events → (number : ℕ) (code : Activation) (status : ℤ)
    → (was : IsAnsweredWith world events (length events) number code status) → WasDelivered world events number was.before
delivered world events fresh are number code status was =
    let has : HasNumber number was.datagram =
    record { message = request_for world number code; spelled = was.puts_up; is = request_number world number code } in
    let sent : WasSent world events number was.before = record { datagram = was.datagram; there = (was.place, was.handed); has_number = has } in
    let first = first_sent world events fresh are number was.before sent in
    record {
      sent_at = first.0;
      is_sent_at = first.2;
      later = omega (arith, first.1);
      place = was.place;
      event = was.event;
      datagram = was.datagram;
      handed = was.handed;
      has_number = has;
    }

answered : (world : WorldModel) (events : List EventModel) → IsFresh world → AreEvents events → (number : ℕ) (code : Activation) (status : ℤ)
    → (was : IsAnsweredWith world events (length events) number code status) → WasAnswered world events number was.before
unfolding delivered
answered world events fresh are number code status was = record { delivered = delivered world events fresh are number code status was; heard = was.hears }

-- ---- refused

was_refused : (world : WorldModel) (events : List EventModel) → IsFresh world → AreEvents events → (entry : Entry) (status : ℤ)
    → IsAnsweredWith world events (length events) entry.number entry.code status → WasRefused world events entry status
unfolding delivered answered
was_refused world events fresh are entry status was = record {
  before = was.before;
  answered = answered world events fresh are entry.number entry.code status was;
  status_is = was.status_is;
}

-- ---- accepted

only_one : (one other : List ℕ) → Contains (activates one ∷ []) (activates other) → other ≡ one
only_one one other p = grind arith

number_zero : (n : ℕ) → pos n ≡ pos 0 → n ≡ 0
number_zero n e = cc e

-- only noError has the number 0
no_error_is : (status : ErrorStatus) → error_status_number status ≡ 0 → status ≡ NoError
no_error_is status e = grind arith

pub status_zero : (status : ErrorStatus) → pos (error_status_number status) ≡ pos 0 → status ≡ NoError
status_zero status e = no_error_is status (number_zero (error_status_number status) e)

-- an activation is accepted for what it says
record IsTaken (world : WorldModel) (s : SignState) (number : ℕ) (code taken : Activation) : Type 0 where
  accepted : (answer_of_any_size s (request_for world number code)).accepted ≡ Some taken
  same : octets_of_activation world.sign.table.order taken ≡ octets_for world code

is_taken : (world : WorldModel) (s : SignState) (number : ℕ) (code : Activation) (datagram : List ℕ) → s.table.order ≡ world.sign.table.order
    → PutsUp world.centre.settings number code datagram → (answer_of_any_size s (request_for world number code)).status ≡ NoError
    → IsTaken world s number code (activation_of world.sign.table.order (octets_for world code))
is_taken world s number code datagram order up none =
    let request : SnmpMessage = request_for world number code in
    let octets : List ℕ = octets_for world code in
    let bindings : request.bindings ≡ activates octets ∷ [] = request_bindings world number code in
    let own : (answer_of_any_size s request).accepted ≡ Some (activation_of s.table.order octets) =
    (accepted_where_no_error s request octets (request_kind world number code) bindings).0 none in
    let asks = (accepted_was_asked_for s request (activation_of s.table.order octets) own).1 in
    let only : asks.octets ≡ octets = only_one octets asks.octets (subst (λ bs. Contains bs (activates asks.octets)) bindings asks.binding) in
    let twelve : length octets ≡ 12 = ap length (sym only) ∙ asks.size in
    let limits = (spelled_in_limits request datagram ((read_is_spelled datagram request).0 up)).bindings in
    let within : AreBindingsInLimits (activates octets ∷ []) = subst AreBindingsInLimits bindings limits in
    record {
      accepted = own ∙ ap (λ o. Some (activation_of o octets)) order;
      same = octets_back world.sign.table.order octets twelve within.1;
    }

-- the world after the event
after_it : (world : WorldModel) (events : List EventModel) (number : ℕ) (code : Activation) (status : ℤ) (count : ℕ)
    → (was : IsAnsweredWith world events count number code status)
    → world_at world events (suc was.before)
    ≡ by_sign (suc was.before) (world_at world events was.before) (heard (world_at world events was.before).sign (request_for world number code))
after_it world events number code status count was =
    turned world events was.before was.place was.datagram was.event was.handed
    ∙ ap (by_sign (suc was.before) (world_at world events was.before)) was.heard_is

listed : (world : WorldModel) (events : List EventModel) (number : ℕ) (code taken : Activation) (status : ℤ)
    → (was : IsAnsweredWith world events (length events) number code status)
    → (answer_of_any_size (world_at world events was.before).sign (request_for world number code)).accepted ≡ Some taken
    → Has (world_after world events).accepted (suc was.before, taken)
listed world events number code taken status was accepted =
    let before : WorldModel = world_at world events was.before in
    let list : (world_at world events (suc was.before)).accepted ≡ before.accepted ++ (suc was.before, taken) ∷ [] =
    ap (λ (w : WorldModel). w.accepted) (after_it world events number code status (length events) was)
    ∙ ap (λ o. before.accepted ++ noted (suc was.before) o) accepted in
    let now : slice_get (world_at world events (suc was.before)).accepted (length before.accepted) ≡ Some (suc was.before, taken) =
    subst (λ xs. slice_get xs (length before.accepted) ≡ Some (suc was.before, taken)) (sym list) (at_end before.accepted (suc was.before, taken)) in
    (length before.accepted, (grows_until world events (suc was.before) (length events) (omega (arith, was.earlier))).accepted (length before.accepted) _ now)

-- what is up after the event has the code's checksum
is_up : (world : WorldModel) (events : List EventModel) (number : ℕ) (code taken : Activation) (status : ℤ) (count : ℕ)
    → (was : IsAnsweredWith world events count number code status)
    → IsTaken world (world_at world events was.before).sign number code taken
    → code.id.memory ≢ current_buffer → code.id.memory ≢ blank_memory → world.sign.table.order ≡ world.centre.settings.order
    → shown_checksum (world_at world events (suc was.before)).sign.shown ≡ code.id.crc
is_up world events number code taken status count was is not_current not_blank order = grind (arith, alike, accepted_is_up, after_it)

was_accepted : (world : WorldModel) (events : List EventModel) → IsFresh world → AreEvents events → (entry : Entry)
    → IsAnsweredWith world events (length events) entry.number entry.code (pos 0) → WasAccepted world events entry
unfolding delivered answered
was_accepted world events fresh are entry was =
    let s : SignState = (world_at world events was.before).sign in
    let none : (answer_of_any_size s (request_for world entry.number entry.code)).status ≡ NoError = status_zero _ was.status_is in
    let taken : Activation = activation_of world.sign.table.order (octets_for world entry.code) in
    let is : IsTaken world s entry.number entry.code taken =
    is_taken world s entry.number entry.code was.datagram (sound_at world events fresh was.before).order was.puts_up none in
    record {
      before = was.before;
      answered = answered world events fresh are entry.number entry.code (pos 0) was;
      code = taken;
      accepted = is.accepted;
      listed = listed world events entry.number entry.code taken (pos 0) was is.accepted;
      same = is.same;
      carries = request_bindings world entry.number entry.code;
      put_up = is_up world events entry.number entry.code taken (pos 0) (length events) was is;
    }

-- ---- the law

accepted_is_true : (world : WorldModel) (events : List EventModel) → IsFresh world → AreEvents events → NothingIsForged events → AcceptedWasAccepted world events
accepted_is_true world events fresh are fair entry there is =
    let count = length events in
    let heard : WasReported world events count entry.number entry.code Accepted =
    subst (WasReported world events count entry.number entry.code) is (reported_at world events fresh are count there.0 entry there.1) in
    was_accepted world events fresh are entry
    (answer_heard world events fresh are fair count entry.number entry.code (pos 0) heard.0 heard.1)

refused_is_true : (world : WorldModel) (events : List EventModel) → IsFresh world → AreEvents events → NothingIsForged events → RefusedWasRefused world events
refused_is_true world events fresh are fair entry status there is =
    let count = length events in
    let heard : WasReported world events count entry.number entry.code (Refused status) =
    subst (WasReported world events count entry.number entry.code) is (reported_at world events fresh are count there.0 entry there.1) in
    was_refused world events fresh are entry status
    (answer_heard world events fresh are fair count entry.number entry.code status heard.0 heard.1)

pub ledger_is_true : (world : WorldModel) (events : List EventModel) → IsFresh world → AreEvents events → NothingIsForged events → LedgerIsTrue world events
ledger_is_true world events fresh are fair = grind (arith, accepted_is_true, refused_is_true)
