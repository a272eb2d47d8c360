use Rattle.dms_sign_laws.proofs.Accepted.{accepted_where_no_error, accepted_was_asked_for}
use Rattle.dms_sign_laws.proofs.AcceptedAmong.{accepted_among}
use Rattle.dms_sign_laws.proofs.laws.accepted_where_no_error.Goals as goal

pub returns : goal.returns
returns c = record { one = accepted_where_no_error; among = accepted_among; only = accepted_was_asked_for }
