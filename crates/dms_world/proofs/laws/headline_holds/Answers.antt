use Rattle.std.proofs.Common.{List}
use Rattle.dms_world.specs.Event.{EventModel}
use Rattle.dms_world.specs.World.{WorldModel, IsFresh}
use Rattle.dms_world.specs.Headline.{AreEvents, Headline}
use Rattle.dms_world.proofs.WorldNumbers as numbers
use Rattle.dms_world.proofs.WorldOrders as orders
use Rattle.dms_world.proofs.WorldSignRows.{one_at_all}
use Rattle.dms_world.proofs.WorldSignSound.{copies_were_defaults}
use Rattle.dms_world.proofs.WorldSignFit.{defaults_fit_after}
use Rattle.dms_world.proofs.WorldSignGood.{valid_rows_were_good}
use Rattle.dms_world.proofs.WorldSignBacked.{is_backed}
use Rattle.dms_world.proofs.WorldHonest as honest
use Rattle.dms_world.proofs.laws.headline_holds.Goals as goal

all : (world : WorldModel) (events : List EventModel) → IsFresh world → AreEvents events → Headline world events
all world events fresh ranges = record {
  requests_agree = numbers.requests_agree world events fresh ranges;
  backed = is_backed world events fresh;
  copied_defaults = copies_were_defaults world events fresh;
  rows_were_good = valid_rows_were_good world events fresh;
  one_row_is_validating = one_at_all world events fresh;
  defaults_fit = defaults_fit_after world events fresh;
  ledger_was_ordered = orders.ledger_was_ordered world events fresh ranges;
  ledger_is_true = honest.ledger_is_true world events fresh ranges;
}

pub returns : goal.returns
returns c = all
