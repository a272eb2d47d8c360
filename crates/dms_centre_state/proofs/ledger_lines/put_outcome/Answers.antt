use Rattle.dms_text_filling.proofs.Parts.{two}
use Rattle.dms_centre_state.proofs.ledger_lines.put_outcome.Goals as goal

pub returns : goal.returns
returns c =
    two c.put_known-place.ensures c.put_text.ensures.octets
