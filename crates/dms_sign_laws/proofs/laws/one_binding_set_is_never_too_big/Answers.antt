use Rattle.dms_sign.proofs.Replies.{one_binding_fits}
use Rattle.dms_sign_laws.proofs.laws.one_binding_set_is_never_too_big.Goals as goal

pub returns : goal.returns
returns c = one_binding_fits
