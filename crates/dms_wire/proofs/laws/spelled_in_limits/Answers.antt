use Rattle.dms_wire.proofs.LimitsLaws.{spelled_in_limits}
use Rattle.dms_wire.proofs.laws.spelled_in_limits.Goals as goal

pub returns : goal.returns
returns c = spelled_in_limits
