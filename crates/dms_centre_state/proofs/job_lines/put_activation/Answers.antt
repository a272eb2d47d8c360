use Rattle.dms_text_filling.proofs.Parts.{three}
use Rattle.dms_centre_state.proofs.job_lines.put_activation.Goals as goal

pub returns : goal.returns
returns c =
    three c.put_text-place.ensures.octets c.put_code-place.ensures c.put_text.ensures.octets
