use Rattle.std.proofs.Common.{◌≡◌, Bool, true, false, refl, ap, ◌∙◌}
use Rattle.std.specs.Int.{from_bool}
use Rattle.std.specs.Prelude.{decimal}
use Rattle.dms_text_filling.proofs.Parts.{three, same}
use Rattle.dms_sign_state.specs.FieldsText.{powered_number}
use Rattle.dms_sign_state.proofs.saving.put_last.Goals as goal

number_of : (powered : Bool) → from_bool powered ≡ powered_number powered
number_of true = refl
number_of false = refl

pub returns-clause-octets : goal.returns-clause-octets
returns-clause-octets c =
    three c.put_text-place.ensures.octets (same (ap decimal (c.from.ensures ∙ number_of c.args.powered)) c.put_decimal-place.ensures.octets)
    c.put_text.ensures.octets
