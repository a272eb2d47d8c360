use Rattle.dms_text_filling.proofs.Parts.{two}
use Rattle.dms_sign_state.proofs.Putting.{word}
use Rattle.dms_sign_state.proofs.lines.put_attributes.Goals as goal

pub returns-clause-octets : goal.returns-clause-octets
returns-clause-octets c =
    two (word (word c.put_number_word-place.ensures.octets c.put_number_word-place-2.ensures.octets) c.put_number_word-place-3.ensures.octets) c.put_text.ensures.octets
