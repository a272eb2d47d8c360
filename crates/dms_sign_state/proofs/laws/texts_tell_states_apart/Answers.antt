use Rattle.dms_sign_state.proofs.StateForms.{one_text_each}
use Rattle.dms_sign_state.proofs.laws.texts_tell_states_apart.Goals as goal

pub returns : goal.returns
returns c = one_text_each
