use Rattle.dms_text_filling.proofs.Parts.{three}
use Rattle.dms_sign_state.proofs.lines.put_message.Goals as goal

pub returns-clause-octets : goal.returns-clause-octets
returns-clause-octets c =
    three c.put_octets_word-place.ensures.octets c.put_octets_word-place-2.ensures.octets c.put_attributes.ensures.octets
