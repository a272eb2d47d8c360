use Rattle.dms_text_filling.proofs.Parts.{three}
use Rattle.dms_sign_state.proofs.lines.put_code.Goals as goal

pub returns-clause-octets : goal.returns-clause-octets
returns-clause-octets c =
    three c.put_texts-place.ensures.octets c.put_octets-place.ensures.octets c.put_text.ensures.octets
