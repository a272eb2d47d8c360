use Rattle.std.proofs.Common.{◌≡◌}
use Rattle.dms_text_streams.specs.Lines.{left}
use Rattle.dms_text_streams.proofs.Turns.{Said}
use Rattle.dms_text_streams.proofs.conversation.converse.Given as goal

abbrev pub invariant-loop : goal.invariant-loop
invariant-loop g l = record {
  said : Said g.P.Party.reply g.P.Party.after l.counter (g.P.Party.state l.fn.party) (left g.S.Source.remaining l.fn.input) (g.W.Sink.contents l.fn.sink)
      (g.P.Party.state l.party) (left g.S.Source.remaining l.input) (g.W.Sink.contents l.sink);
  all_read : g.S.Source.failed l.input.source ≡ g.S.Source.failed l.fn.input.source;
  all_written : g.W.Sink.failed l.sink ≡ g.W.Sink.failed l.fn.sink;
}
