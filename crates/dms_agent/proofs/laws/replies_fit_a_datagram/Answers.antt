use Rattle.dms_agent.proofs.Sizes.{reply_fits}
use Rattle.dms_agent.proofs.laws.replies_fit_a_datagram.Goals as goal

pub returns : goal.returns
returns c = reply_fits
