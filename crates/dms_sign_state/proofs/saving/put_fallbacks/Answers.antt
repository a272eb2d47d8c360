use Rattle.dms_text_filling.proofs.Parts.{five}
use Rattle.dms_sign_state.proofs.saving.put_fallbacks.Goals as goal

pub returns-clause-octets : goal.returns-clause-octets
returns-clause-octets c =
    five c.put_code-place.ensures.octets c.put_code-place-2.ensures.octets c.put_code-place-3.ensures.octets c.put_code-place-4.ensures.octets
    c.put_code.ensures.octets
