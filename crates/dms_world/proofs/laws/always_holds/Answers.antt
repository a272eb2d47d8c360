use Rattle.dms_world.proofs.WorldAlways.{always}
use Rattle.dms_world.proofs.laws.always_holds.Goals as goal

pub returns : goal.returns
returns c = always
