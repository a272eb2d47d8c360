use Rattle.dms_world.proofs.WorldOrders as orders
use Rattle.dms_world.proofs.number_laws.ledger_was_ordered.Goals as goal

pub returns : goal.returns
returns c = orders.ledger_was_ordered
