use Rattle.std.proofs.Common.{arith}
use Rattle.dms_text_filling.proofs.Parts.{four, same}
use Rattle.dms_text_exact.proofs.AddressLaws.{dotted_four}
use Rattle.dms_text_exact.proofs.putting.put_address.Goals as goal

pub returns-clause-octets : goal.returns-clause-octets
returns-clause-octets c =
    same (dotted_four c.args.address (omega arith))
    (four c.put_decimal-place.ensures.octets c.put_dot-place.ensures.octets c.put_dot-place-2.ensures.octets c.put_dot.ensures.octets)
