use Rattle.std.proofs.Common.{◌≡◌, ◌-◌, ◌≤◌, length}
use Rattle.dms_text_streams.specs.Lines.{left}
use Rattle.dms_text_streams.proofs.Descriptions.{Collects}
use Rattle.dms_text_streams.proofs.describing.description_text.Given as goal

abbrev pub invariant-loop-fault : goal.invariant-loop-fault
invariant-loop-fault g l = record {
  collects : Collects (left g.S.Source.remaining l.fn.input) l.text.items (left g.S.Source.remaining l.input);
  short : length l.text.items ≤ 1048576;
  unfailed : g.S.Source.failed l.input.source ≡ g.S.Source.failed l.fn.input.source;
}

abbrev pub decreases-loop-fault : goal.decreases-loop-fault
decreases-loop-fault g l = 1048576 - length l.text.items
