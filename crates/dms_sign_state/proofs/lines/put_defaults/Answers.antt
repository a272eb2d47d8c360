use Rattle.dms_text_filling.proofs.Parts.{two, three}
use Rattle.dms_sign_state.proofs.Putting.{word}
use Rattle.dms_sign_state.proofs.lines.put_defaults.Goals as goal

pub returns-clause-octets : goal.returns-clause-octets
returns-clause-octets c =
    three
    (word (word (word c.put_number_word-place.ensures.octets c.put_number_word-place-2.ensures.octets) c.put_number_word-place-3.ensures.octets) c.put_number_word-place-4.ensures.octets)
    (word (word c.put_number_word-place-5.ensures.octets c.put_number_word-place-6.ensures.octets) c.put_number_word-place-7.ensures.octets)
    (two (word c.put_number_word-place-8.ensures.octets c.put_number_word-place-9.ensures.octets) c.put_text.ensures.octets)
