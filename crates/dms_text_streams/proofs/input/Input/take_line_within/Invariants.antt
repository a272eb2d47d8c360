use Rattle.std.proofs.Common.{◌≡◌, ◌-◌, ◌≤◌, length}
use Rattle.dms_text_streams.specs.Lines.{left, Holds}
use Rattle.dms_text_streams.proofs.input.Input.take_line_within.Given as goal

abbrev pub invariant-loop-fault : goal.invariant-loop-fault
invariant-loop-fault g l = record {
  holds : Holds l.limit (left g.S.Source.remaining l.fn.self) l.whole.items (left g.S.Source.remaining l.self);
  short : length l.whole.items ≤ l.limit;
  unfailed : g.S.Source.failed l.self.source ≡ g.S.Source.failed l.fn.self.source;
}

abbrev pub decreases-loop-fault : goal.decreases-loop-fault
decreases-loop-fault g l = l.limit - length l.whole.items
