use Rattle.std.proofs.Common.{◌+◌, ◌≤◌, length, map}
use Rattle.dms_text.specs.Words.{parts_of}
use Rattle.dms_device.specs.Objects.{binding_of}
use Rattle.dms_agent_state.proofs.LinesRead.{AreReadTo}
use Rattle.dms_agent_state.proofs.reading.values.Given as goal

abbrev pub invariant-loop-line : goal.invariant-loop-line
invariant-loop-line l = record {
  read : AreReadTo l.first (parts_of 10 l.lines) l.number (parts_of 10 l.rest) (map binding_of l.values.items);
  few : l.number + length l.rest ≤ l.first + length l.lines;
}

abbrev pub decreases-loop-line : goal.decreases-loop-line
decreases-loop-line l = length l.rest
