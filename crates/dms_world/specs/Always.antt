-- What holds at every moment of a sign, of its centre and of what is between them, beside the law of the whole run
-- (this profile).
use Rattle.std.specs.Prelude.{List}
use Rattle.dms_world.specs.Event.{EventModel}
use Rattle.dms_world.specs.World.{WorldModel, IsFresh}
use Rattle.dms_world.specs.Headline.{AreEvents, NothingIsForged}
use Rattle.dms_world.specs.InFlight.{KeptIsBacked, NoErrorWasAccepted, NumbersAreBelowNext, RepliesAreTheSigns}
use Rattle.dms_world.specs.InFlight.{WaitingWasSent}

-- What the sign kept at a loss of power is backed as what it shows is. A noError to an activation has its code among
-- those accepted. The numbers of requests are below the next one, and the request that the centre waits for was sent.
-- Where nothing is forged, each reply is the sign's own.
pub record Always (world : WorldModel) (events : List EventModel) : Type 0 where
  pub kept_is_backed : KeptIsBacked world events
  pub no_error_was_accepted : NoErrorWasAccepted world events
  pub numbers_are_below_next : NumbersAreBelowNext world events
  pub waiting_was_sent : WaitingWasSent world events
  pub replies_are_the_signs : NothingIsForged events → RepliesAreTheSigns world events

-- It holds from every fresh world on.
abbrev pub AlwaysHolds : Type 0
AlwaysHolds = (world : WorldModel) (events : List EventModel) → IsFresh world → AreEvents events → Always world events
