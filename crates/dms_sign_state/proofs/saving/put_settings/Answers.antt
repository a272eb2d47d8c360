use Rattle.dms_text_filling.proofs.Parts.{three}
use Rattle.dms_sign_state.proofs.saving.put_settings.Goals as goal

pub returns-clause-octets : goal.returns-clause-octets
returns-clause-octets c =
    three c.put_set_defaults-place.ensures.octets c.put_fallbacks-place.ensures.octets c.put_numbers.ensures.octets
