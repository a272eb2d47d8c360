use Rattle.dms_text_filling.proofs.Parts.{two}
use Rattle.dms_centre_state.proofs.saving.put_why.Goals as goal

pub returns : goal.returns
returns c =
    two c.put_reason-place.ensures c.put_text.ensures.octets
