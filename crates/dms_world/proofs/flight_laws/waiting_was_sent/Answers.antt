use Rattle.dms_world.proofs.WorldInFlight as proofs
use Rattle.dms_world.proofs.flight_laws.waiting_was_sent.Goals as goal

pub returns : goal.returns
returns c = proofs.waiting_was_sent
