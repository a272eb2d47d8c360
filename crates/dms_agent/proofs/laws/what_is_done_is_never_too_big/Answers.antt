use Rattle.dms_agent.proofs.Sizes.{done_is_whole}
use Rattle.dms_agent.proofs.laws.what_is_done_is_never_too_big.Goals as goal

pub returns : goal.returns
returns c = done_is_whole
