use Rattle.std.proofs.Common.{◌≡◌, ◌+◌, ◌≤◌, take}
use Rattle.dms_agent_state.specs.ValueLines.{line_after}
use Rattle.dms_agent_state.proofs.reading.line_after.Given as goal

abbrev pub invariant-loop-octet : goal.invariant-loop-octet
invariant-loop-octet l = record {
  lines : l.line ≡ line_after (take l.octet-index l.text);
  few : l.line ≤ l.octet-index + 1;
}
