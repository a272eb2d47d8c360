use Rattle.dms_sign_restored.proofs.OneSign.{one_put, one_restored}
use Rattle.dms_sign_restored.proofs.laws.a_text_restores_one_sign.Goals as goal

pub returns-clause-restored : goal.returns-clause-restored
returns-clause-restored c = one_restored c.texts_tell_states_apart.ensures

pub returns-clause-put : goal.returns-clause-put
returns-clause-put c = one_put c.texts_tell_states_apart.ensures
