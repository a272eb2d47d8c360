use Rattle.dms_sign_restored.proofs.ShownGood.{put_shows_what_is_good, restored_shows_what_is_good}
use Rattle.dms_sign_restored.proofs.laws.restored_signs_show_what_is_good.Goals as goal

pub returns-clause-restored : goal.returns-clause-restored
returns-clause-restored c = restored_shows_what_is_good

pub returns-clause-put : goal.returns-clause-put
returns-clause-put c = put_shows_what_is_good
