use Rattle.dms_world.proofs.WorldNoError as proofs
use Rattle.dms_world.proofs.flight_laws.no_error_was_accepted.Goals as goal

pub returns : goal.returns
returns c = proofs.no_error_was_accepted
