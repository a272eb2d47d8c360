use Rattle.std.proofs.Common.{length}
use Rattle.dms_agent_lines.proofs.SetLines.{IsListed}
use Rattle.dms_agent_lines.proofs.answering.put_set_lines.Given as goal

abbrev pub invariant-loop-rest : goal.invariant-loop-rest
invariant-loop-rest l = IsListed l.initial.text.items l.text.items l.objects l.rest

abbrev pub decreases-loop-rest : goal.decreases-loop-rest
decreases-loop-rest l = length l.rest
