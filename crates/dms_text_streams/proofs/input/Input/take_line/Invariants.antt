use Rattle.std.proofs.Common.{◌≡◌, ◌≤◌, length}
use Rattle.dms_text_streams.specs.Lines.{left, Continues}
use Rattle.dms_text_streams.proofs.input.Input.take_line.Given as goal

abbrev pub invariant-loop : goal.invariant-loop
invariant-loop g l = record {
  going : Continues l.limit l.counter (left g.S.Source.remaining l.fn.self) l.line.items (left g.S.Source.remaining l.self);
  short : length l.line.items ≤ l.limit;
  unfailed : g.S.Source.failed l.self.source ≡ g.S.Source.failed l.fn.self.source;
}
