use Rattle.dms_text_filling.proofs.Parts.{four}
use Rattle.dms_centre_state.proofs.job_lines.put_message.Goals as goal

pub returns : goal.returns
returns c =
    four c.put_text-place.ensures.octets c.put_octets-place.ensures.octets c.put_text-place-2.ensures.octets c.put_octets.ensures.octets
