use Rattle.dms_agent.proofs.Alone.{received_alone}
use Rattle.dms_agent.proofs.laws.alone_it_is_the_sign.Goals as goal

pub returns : goal.returns
returns c = received_alone
