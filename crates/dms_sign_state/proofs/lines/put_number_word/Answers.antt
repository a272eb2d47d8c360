use Rattle.dms_text_filling.proofs.Parts.{two}
use Rattle.dms_sign_state.proofs.lines.put_number_word.Goals as goal

pub returns-clause-octets : goal.returns-clause-octets
returns-clause-octets g c = two c.put_text-place.ensures.octets c.put_decimal.ensures.octets
