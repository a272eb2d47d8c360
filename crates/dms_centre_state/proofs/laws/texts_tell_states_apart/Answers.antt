use Rattle.dms_centre_state.proofs.CentreTexts.{texts_tell}
use Rattle.dms_centre_state.proofs.laws.texts_tell_states_apart.Goals as goal

pub returns : goal.returns
returns c = texts_tell
