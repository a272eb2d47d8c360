use Rattle.dms_world.proofs.WorldSignBacked.{is_backed}
use Rattle.dms_world.proofs.sign_laws.backed.Goals as goal

pub returns : goal.returns
returns c = is_backed
