use Rattle.std.proofs.Common.{arith}
use Rattle.dms_text_streams.proofs.Taken.{lost_piece}
use Rattle.dms_text_streams.proofs.reading.read_whole.Goals as goal

pub returns-then-count-limit-clause-lost : goal.returns-then-count-limit-clause-lost
returns-then-count-limit-clause-lost g c =
    lost_piece _ _ _ _ _ _ _ c.loop-count.invariant.read c.in-Ok.ensures.octets.0 c.loop-count.invariant.short (omega (arith, c.read_some.auto.buffer))
