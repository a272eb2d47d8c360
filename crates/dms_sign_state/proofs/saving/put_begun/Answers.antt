use Rattle.std.proofs.Common.{ap}
use Rattle.std.specs.Prelude.{decimal}
use Rattle.dms_text_filling.proofs.Parts.{five, same}
use Rattle.dms_sign_state.proofs.saving.put_begun.Goals as goal

pub returns-clause-octets : goal.returns-clause-octets
returns-clause-octets c =
    five c.put_text-place.ensures.octets c.put_text-place-2.ensures.octets c.put_decimal-place.ensures.octets c.put_text-place-3.ensures.octets
    (same (ap decimal c.number.ensures) c.put_decimal.ensures.octets)
