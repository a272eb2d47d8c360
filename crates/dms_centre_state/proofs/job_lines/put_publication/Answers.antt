use Rattle.dms_text_filling.proofs.Parts.{four}
use Rattle.dms_centre_state.proofs.Putting.{word}
use Rattle.dms_centre_state.proofs.job_lines.put_publication.Goals as goal

pub returns : goal.returns
returns c =
    four c.put_row-place.ensures c.put_message-place.ensures
    (word (word c.put_word-place.ensures c.put_word-place-2.ensures) c.put_word-place-3.ensures) c.put_terms.ensures
