use Rattle.dms_text_filling.proofs.Parts.{two}
use Rattle.dms_centre_state.proofs.Putting.{word}
use Rattle.dms_centre_state.proofs.job_lines.put_row.Goals as goal

pub returns : goal.returns
returns c =
    word (two c.put_text-place.ensures.octets c.put_decimal-place.ensures.octets) c.put_word.ensures
