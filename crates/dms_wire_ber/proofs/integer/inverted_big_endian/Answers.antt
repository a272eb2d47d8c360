use Rattle.std.proofs.Common.{arith}
use Rattle.dms_wire_ber.proofs.Integers.{inverted_value}
use Rattle.dms_wire_ber.proofs.Octets.{power_room}
use Rattle.dms_wire_ber.proofs.integer.inverted_big_endian.Goals as goal

pub returns-clause-value : goal.returns-clause-value
returns-clause-value c = grind (arith, inverted_value, power_room)
