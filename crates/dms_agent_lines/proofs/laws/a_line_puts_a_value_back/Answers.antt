use Rattle.dms_agent_lines.proofs.SetBack.{one_line}
use Rattle.dms_agent_lines.proofs.laws.a_line_puts_a_value_back.Goals as goal

pub returns : goal.returns
returns c = one_line
