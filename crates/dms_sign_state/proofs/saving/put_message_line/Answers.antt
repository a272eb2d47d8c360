use Rattle.std.proofs.Common.{ap}
use Rattle.dms_table.specs.Rows.{RowReading}
use Rattle.dms_text_filling.proofs.Parts.{two, same}
use Rattle.dms_sign_state.specs.FieldsText.{message_words}
use Rattle.dms_sign_state.specs.StateText.{message_of}
use Rattle.dms_sign_state.proofs.saving.put_message_line.Goals as goal

pub returns-clause-octets : goal.returns-clause-octets
returns-clause-octets c =
    two c.put_text-place.ensures.octets (same (ap (λ (r : RowReading). message_words (message_of r.row)) c.view.ensures.read) c.put_message.ensures.octets)
