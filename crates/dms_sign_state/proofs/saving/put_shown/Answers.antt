use Rattle.std.proofs.Common.{codes, ap}
use Rattle.dms_table.specs.Activation.{ShownModel}
use Rattle.dms_text_filling.proofs.Parts.{six, same}
use Rattle.dms_sign_state.specs.FieldsText.{part_line, address_line, remaining_text, copied_line}
use Rattle.dms_sign_state.proofs.saving.put_shown.Goals as goal

pub returns-clause-octets : goal.returns-clause-octets
returns-clause-octets c =
    let name = c.args.name.now in
    six c.put_message_line-place.ensures.octets c.put_source-place.ensures.octets
    (same (ap (λ (s : ShownModel). part_line name (codes "-mode") s.mode) c.shown.view_is) c.put_part-place.ensures.octets)
    (same (ap (λ (s : ShownModel). address_line name s.address) c.shown.view_is) c.put_address_line-place.ensures.octets)
    (same (ap (λ (s : ShownModel). remaining_text name s.remaining) c.shown.view_is) c.put_remaining-place.ensures.octets)
    (same (ap (λ (s : ShownModel). copied_line name s.defaults) c.shown.view_is) c.put_copied.ensures.octets)
