use Rattle.std.proofs.Common.{length}
use Rattle.dms_agent_state.specs.AgentText.{kept_line}
use Rattle.dms_text_filling.proofs.Many.{Begun}
use Rattle.dms_agent_state.proofs.saving.put_lines.Given as goal

-- the lines of the objects before are put
abbrev pub invariant-loop-rest : goal.invariant-loop-rest
invariant-loop-rest l = Begun kept_line l.objects l.rest l.place l.initial.buffer l.end l.buffer

abbrev pub decreases-loop-rest : goal.decreases-loop-rest
decreases-loop-rest l = length l.rest
