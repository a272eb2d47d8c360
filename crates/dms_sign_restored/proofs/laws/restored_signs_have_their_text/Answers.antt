use Rattle.dms_sign_restored.proofs.RestoredText.{text_again, text_of_put}
use Rattle.dms_sign_restored.proofs.laws.restored_signs_have_their_text.Goals as goal

pub returns-clause-restored : goal.returns-clause-restored
returns-clause-restored c = text_again c.ids_are_their_octets.ensures.octets

pub returns-clause-put : goal.returns-clause-put
returns-clause-put c = text_of_put c.ids_are_their_octets.ensures.octets
