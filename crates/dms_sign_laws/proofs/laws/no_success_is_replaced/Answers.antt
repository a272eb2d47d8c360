use Rattle.dms_sign.proofs.Replies.{success_fits}
use Rattle.dms_sign_laws.proofs.laws.no_success_is_replaced.Goals as goal

pub returns : goal.returns
returns c = success_fits
