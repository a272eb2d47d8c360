use Rattle.std.proofs.Common.{refl}
use Rattle.dms_centre_restored.proofs.laws.a_saved_centre_is_restored_as_itself.Goals as goal

pub returns-clause-itself : goal.returns-clause-itself
returns-clause-itself c = λ saved again reached is. c.texts_tell_states_apart.ensures again saved is.reached reached is.settings is.text

pub returns-clause-can : goal.returns-clause-can
returns-clause-can c = λ saved reached. record { settings = refl; text = refl; reached = reached }
