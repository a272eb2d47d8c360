use Rattle.std.proofs.Common.{arith}
use Rattle.dms_world.proofs.Made.{made_fresh, no_datagram_yet}
use Rattle.dms_world.proofs.world.World.new.Goals as goal

pub returns-clause-fresh : goal.returns-clause-fresh
returns-clause-fresh c = grind (arith, no_datagram_yet, made_fresh)
