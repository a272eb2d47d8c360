use Rattle.dms_world.specs.CodeView.{seen, happened}
use Rattle.dms_world.proofs.WorldNumbers as numbers
use Rattle.dms_world.proofs.WorldOrders as orders
use Rattle.dms_world.proofs.WorldSignRows.{one_at_all}
use Rattle.dms_world.proofs.WorldSignSound.{copies_were_defaults}
use Rattle.dms_world.proofs.WorldSignFit.{defaults_fit_after}
use Rattle.dms_world.proofs.WorldSignGood.{valid_rows_were_good}
use Rattle.dms_world.proofs.WorldSignBacked as backing
use Rattle.dms_world.proofs.WorldHonest as honest
use Rattle.dms_world.proofs.WorldAlways.{always}
use Rattle.dms_world.proofs.running.run.Goals as goal

pub returns-clause-requests_agree : goal.returns-clause-requests_agree
returns-clause-requests_agree c = λ fresh.
    numbers.requests_agree (seen c.args.world.now) (happened c.happen_each.result c.args.events.now) fresh c.happen_each.ensures.ranges

pub returns-clause-backed : goal.returns-clause-backed
returns-clause-backed c = λ fresh. backing.is_backed (seen c.args.world.now) (happened c.happen_each.result c.args.events.now) fresh

pub returns-clause-copied_defaults : goal.returns-clause-copied_defaults
returns-clause-copied_defaults c = λ fresh. copies_were_defaults (seen c.args.world.now) (happened c.happen_each.result c.args.events.now) fresh

pub returns-clause-rows_were_good : goal.returns-clause-rows_were_good
returns-clause-rows_were_good c = λ fresh. valid_rows_were_good (seen c.args.world.now) (happened c.happen_each.result c.args.events.now) fresh

pub returns-clause-one_row_is_validating : goal.returns-clause-one_row_is_validating
returns-clause-one_row_is_validating c = λ fresh. one_at_all (seen c.args.world.now) (happened c.happen_each.result c.args.events.now) fresh

pub returns-clause-defaults_fit : goal.returns-clause-defaults_fit
returns-clause-defaults_fit c = λ fresh. defaults_fit_after (seen c.args.world.now) (happened c.happen_each.result c.args.events.now) fresh

pub returns-clause-ledger_was_ordered : goal.returns-clause-ledger_was_ordered
returns-clause-ledger_was_ordered c = λ fresh.
    orders.ledger_was_ordered (seen c.args.world.now) (happened c.happen_each.result c.args.events.now) fresh c.happen_each.ensures.ranges

pub returns-clause-ledger_is_true : goal.returns-clause-ledger_is_true
returns-clause-ledger_is_true c = λ fresh fair.
    honest.ledger_is_true (seen c.args.world.now) (happened c.happen_each.result c.args.events.now) fresh c.happen_each.ensures.ranges fair

pub returns-clause-always : goal.returns-clause-always
returns-clause-always c = λ fresh. always (seen c.args.world.now) (happened c.happen_each.result c.args.events.now) fresh c.happen_each.ensures.ranges
