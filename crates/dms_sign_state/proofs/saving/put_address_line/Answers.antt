use Rattle.dms_text_filling.proofs.Parts.{two}
use Rattle.dms_sign_state.proofs.saving.put_address_line.Goals as goal

pub returns-clause-octets : goal.returns-clause-octets
returns-clause-octets c =
    two c.put_texts-place.ensures.octets (two c.put_address-place.ensures.octets c.put_text.ensures.octets)
