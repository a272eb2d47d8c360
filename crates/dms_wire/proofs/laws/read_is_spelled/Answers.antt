use Rattle.dms_wire.proofs.MessageOfLaws.{read_is_spelled}
use Rattle.dms_wire.proofs.laws.read_is_spelled.Goals as goal

pub returns : goal.returns
returns c = read_is_spelled
