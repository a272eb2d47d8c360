use Rattle.std.proofs.Common.{arith}
use Rattle.dms_text_streams.proofs.Taken.{breaks, stops, as_many}
use Rattle.dms_text_streams.proofs.input.Input.take_line.Goals as goal

pub returns-in-Err-clause-part : goal.returns-in-Err-clause-part
returns-in-Err-clause-part g c = breaks _ _ _ _ _ _ c.loop.invariant.going c.in-Err.ensures.kept

pub returns-clause-part : goal.returns-clause-part
returns-clause-part g c = stops _ _ _ _ _ c.loop.invariant.going

pub returns-clause-too_long : goal.returns-clause-too_long
returns-clause-too_long g c = grind (arith, as_many)
