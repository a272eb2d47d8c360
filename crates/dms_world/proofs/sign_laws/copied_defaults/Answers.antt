use Rattle.dms_world.proofs.WorldSignSound.{copies_were_defaults}
use Rattle.dms_world.proofs.sign_laws.copied_defaults.Goals as goal

pub returns : goal.returns
returns c = copies_were_defaults
