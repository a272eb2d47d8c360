use Rattle.dms_world.proofs.WorldInFlight as proofs
use Rattle.dms_world.proofs.flight_laws.numbers_are_below_next.Goals as goal

pub returns : goal.returns
returns c = proofs.numbers_are_below_next
