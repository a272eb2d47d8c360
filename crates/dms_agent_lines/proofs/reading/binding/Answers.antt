use Rattle.dms_agent_state.proofs.ValueLaws.{read_sent}
use Rattle.dms_agent_lines.proofs.reading.binding.Goals as goal

pub invariant_of-result : goal.invariant_of-result
invariant_of-result c = read_sent _ _ _ c.in-Some.ensures
