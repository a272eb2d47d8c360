use Rattle.std.proofs.Common.{arith}
use Rattle.dms_text_streams.proofs.Taken.{goes_on, ends}
use Rattle.dms_text_streams.proofs.input.Input.take_part.Goals as goal

pub returns-clause-goes_on : goal.returns-clause-goes_on
returns-clause-goes_on g c = grind (arith, goes_on)

pub returns-clause-ends : goal.returns-clause-ends
returns-clause-ends g c = grind (arith, ends)
