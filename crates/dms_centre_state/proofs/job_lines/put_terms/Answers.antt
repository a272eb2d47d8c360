use Rattle.dms_text_filling.proofs.Parts.{two}
use Rattle.dms_centre_state.proofs.Putting.{word}
use Rattle.dms_centre_state.proofs.job_lines.put_terms.Goals as goal

pub returns : goal.returns
returns c =
    word (word c.put_word-place.ensures c.put_word-place-2.ensures)
    (two c.put_text-place.ensures.octets (two c.put_address-place.ensures.octets c.put_text.ensures.octets))
