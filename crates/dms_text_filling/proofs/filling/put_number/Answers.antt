use Rattle.dms_text_filling.proofs.Parts.{four}
use Rattle.dms_text_filling.proofs.filling.put_number.Goals as goal

pub returns-clause-octets : goal.returns-clause-octets
returns-clause-octets g c =
    four c.put_text-place.ensures.octets c.put_text-place-2.ensures.octets c.put_decimal-place.ensures.octets c.put_text.ensures.octets
