use Rattle.dms_world.proofs.WorldInFlight as proofs
use Rattle.dms_world.proofs.flight_laws.replies_are_the_signs.Goals as goal

pub returns : goal.returns
returns c = proofs.replies_are_the_signs
