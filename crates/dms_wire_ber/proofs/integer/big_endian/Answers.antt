use Rattle.std.proofs.Common.{arith}
use Rattle.std.proofs.lemmas.Int.Digits.{number_more}
use Rattle.dms_wire_ber.proofs.Octets.{octet_bound, octet_room}
use Rattle.dms_wire_ber.proofs.integer.big_endian.Goals as goal

pub loop-octet-preserved : goal.loop-octet-preserved
loop-octet-preserved c = grind (arith, octet_room, number_more, octet_bound)
