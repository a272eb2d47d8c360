use Rattle.dms_world.proofs.WorldSignFit.{defaults_fit_after}
use Rattle.dms_world.proofs.sign_laws.defaults_fit.Goals as goal

pub returns : goal.returns
returns c = defaults_fit_after
