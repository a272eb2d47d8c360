use Rattle.dms_wire.proofs.Promises.{one_spelled}
use Rattle.dms_wire.proofs.laws.one_message.Goals as goal

pub returns : goal.returns
returns c = one_spelled
