use Rattle.dms_text_filling.proofs.Parts.{six}
use Rattle.dms_sign_state.proofs.saving.put_reports.Goals as goal

pub returns-clause-octets : goal.returns-clause-octets
returns-clause-octets c =
    six c.put_number-place.ensures.octets c.put_number-place-2.ensures.octets c.put_number-place-3.ensures.octets c.put_number-place-4.ensures.octets
    c.put_code-place.ensures.octets c.put_code.ensures.octets
