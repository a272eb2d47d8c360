-- What holds at every moment, from a fresh world on.
use Rattle.std.proofs.Common.{List}
use Rattle.dms_world.specs.Event.{EventModel}
use Rattle.dms_world.specs.World.{WorldModel, IsFresh}
use Rattle.dms_world.specs.Headline.{AreEvents}
use Rattle.dms_world.specs.Always.{Always}
use Rattle.dms_world.proofs.WorldSignBacked.{kept_is_backed}
use Rattle.dms_world.proofs.WorldNoError.{no_error_was_accepted}
use Rattle.dms_world.proofs.WorldInFlight as flight

pub always : (world : WorldModel) (events : List EventModel) → IsFresh world → AreEvents events → Always world events
always world events fresh are = record {
  kept_is_backed = kept_is_backed world events fresh;
  no_error_was_accepted = no_error_was_accepted world events fresh;
  numbers_are_below_next = flight.numbers_are_below_next world events fresh are;
  waiting_was_sent = flight.waiting_was_sent world events fresh are;
  replies_are_the_signs = flight.replies_are_the_signs world events fresh;
}
