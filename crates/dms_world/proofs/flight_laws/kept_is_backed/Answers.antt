use Rattle.dms_world.proofs.WorldSignBacked as proofs
use Rattle.dms_world.proofs.flight_laws.kept_is_backed.Goals as goal

pub returns : goal.returns
returns c = proofs.kept_is_backed
