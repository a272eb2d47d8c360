use Rattle.std.proofs.Common.{arith}
use Rattle.dms_wire.proofs.ShortestSpellings.{nothing_shortest}
use Rattle.dms_wire.proofs.binding.shortest_octets.Goals as goal

pub returns-clause-same : goal.returns-clause-same
returns-clause-same c = grind (arith, nothing_shortest)
