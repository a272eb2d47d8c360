-- What is in flight between a sign and its centre, after any events.
use Rattle.std.proofs.Common.{List, length}
use Rattle.dms_sign.specs.InRange.{IsSpelledReply}
use Rattle.dms_sign_laws.proofs.InRangeReplies.{replies_spell_their_response}
use Rattle.dms_world.specs.Event.{EventModel}
use Rattle.dms_world.specs.World.{WorldModel, world_at, IsFresh}
use Rattle.dms_world.specs.Headline.{AreEvents, NothingIsForged}
use Rattle.dms_world.specs.InFlight.{RepliesAreTheSigns, NumbersAreBelowNext, WaitingWasSent}
use Rattle.dms_world.proofs.WorldHonestRange.{in_range_at}
use Rattle.dms_world.proofs.WorldNumbers.{waiting_at}
use Rattle.dms_world.proofs.WorldReplies.{answered_at}
use Rattle.dms_world.proofs.WorldSent.{sent_below}

pub replies_are_the_signs : (world : WorldModel) (events : List EventModel) → IsFresh world → NothingIsForged events → RepliesAreTheSigns world events
replies_are_the_signs world events fresh fair = λ reply there.
    let is = answered_at world events fresh fair (length events) there.0 reply there.1 in
    let reads : IsSpelledReply (world_at world events is.before).sign is.datagram reply =
    replies_spell_their_response (world_at world events is.before).sign is.datagram reply (in_range_at world events fresh is.before) is.answered in
    record {
      before = is.before;
      place = is.place;
      event = is.event;
      datagram = is.datagram;
      handed = is.handed;
      answered = is.answered;
      request = reads.request;
      asked = reads.asked;
      response = reads.response;
      spelled = reads.spelled;
      number = reads.number;
    }

pub numbers_are_below_next : (world : WorldModel) (events : List EventModel) → IsFresh world → AreEvents events → NumbersAreBelowNext world events
numbers_are_below_next world events fresh are = λ datagram number there has.
    sent_below world events fresh are number (length events) (record { datagram = datagram; there = there; has_number = has })

pub waiting_was_sent : (world : WorldModel) (events : List EventModel) → IsFresh world → AreEvents events → WaitingWasSent world events
waiting_was_sent world events fresh are = λ job pending waits.
    let out = waiting_at world events fresh are (length events) job pending waits in
    (out.place, out.there)
