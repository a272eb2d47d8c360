use Rattle.std.proofs.Common.{length}
use Rattle.dms_agent_lines.proofs.Named.{IsSought}
use Rattle.dms_agent_lines.proofs.answering.access_of.Given as goal

abbrev pub invariant-loop-rest : goal.invariant-loop-rest
invariant-loop-rest l = IsSought l.name l.objects l.rest

abbrev pub decreases-loop-rest : goal.decreases-loop-rest
decreases-loop-rest l = length l.rest
