use Rattle.dms_sign.proofs.Replies.{names_its_request}
use Rattle.dms_sign_laws.proofs.laws.replies_name_their_request.Goals as goal

pub returns : goal.returns
returns c = names_its_request
