use Rattle.dms_text_filling.proofs.Parts.{two}
use Rattle.dms_sign_state.proofs.saving.put_table.Goals as goal

pub returns-clause-octets : goal.returns-clause-octets
returns-clause-octets c =
    two c.put_used-place.ensures.octets c.put_used.ensures.octets
