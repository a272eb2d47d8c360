use Rattle.std.proofs.Common.{arith}
use Rattle.std.proofs.lemmas.Grind.{common_steps}
use Rattle.dms_wire_ber.specs.Reading.{integer_value}
use Rattle.dms_wire.proofs.usual.number_of.Goals as goal

-- one octet, its first bit 0
pub returns-in-len1 : goal.returns-in-len1
unfolding integer_value
returns-in-len1 c = grind (arith, common_steps)
