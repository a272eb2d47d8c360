use Rattle.std.proofs.Common.{◌≡◌, ℕ, ◌+◌, List, ◌++◌, length}
use Rattle.std.specs.Io.KnownBytes.{Appends}
use Rattle.dms_text_streams.specs.Room.{HasRoom}
use Rattle.dms_text_streams.proofs.writing.write_whole.Given as goal

abbrev pub invariant-loop-rest : goal.invariant-loop-rest
invariant-loop-rest g l = record {
  written : (prefix : List ℕ) × (l.octets ≡ prefix ++ l.rest) × Appends (g.W.Sink.contents l.initial.sink) (g.W.Sink.contents l.sink) prefix;
  unfailed : g.W.Sink.failed l.sink ≡ g.W.Sink.failed l.initial.sink;
  room : (more : ℕ) → HasRoom (g.W.Sink.room l.initial.sink) (length l.octets + more) → HasRoom (g.W.Sink.room l.sink) (length l.rest + more);
}

abbrev pub decreases-loop-rest : goal.decreases-loop-rest
decreases-loop-rest g l = length l.rest
