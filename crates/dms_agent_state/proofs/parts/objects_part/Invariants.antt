use Rattle.std.proofs.Common.{◌≤◌, length}
use Rattle.dms_agent_state.proofs.Ends.{IsPassed}
use Rattle.dms_agent_state.proofs.parts.objects_part.Given as goal

abbrev pub invariant-lines : goal.invariant-lines
invariant-lines l = IsPassed l.text l.rest × (length l.rest ≤ length l.text)

abbrev pub decreases-lines : goal.decreases-lines
decreases-lines l = length l.rest
