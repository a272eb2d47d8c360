use Rattle.dms_text_filling.proofs.Parts.{two}
use Rattle.dms_centre_state.proofs.job_lines.put_word.Goals as goal

pub returns : goal.returns
returns g c = two c.put_text-place.ensures.octets c.put_decimal.ensures.octets
