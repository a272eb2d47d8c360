use Rattle.dms_agent_state.proofs.Kept.{received_kept}
use Rattle.dms_agent_state.proofs.laws.datagrams_leave_what_can_be_saved.Goals as goal

pub returns : goal.returns
returns c = received_kept
