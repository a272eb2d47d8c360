use Rattle.std.proofs.Common.{arith}
use Rattle.dms_wire.proofs.ShortPrefixes.{status_room}
use Rattle.dms_wire.proofs.message.size_of_numbers.Goals as goal

pub returns-in-Some-clause-exact : goal.returns-in-Some-clause-exact
returns-in-Some-clause-exact c = omega (arith, c.size_of_integer.ensures.exact, status_room _ _ _ _ c.in-Some.ensures)
