use Rattle.std.proofs.Common.{ap}
use Rattle.dms_codes.specs.Codes.{octets_of_id}
use Rattle.dms_table.specs.Activation.{ShownModel}
use Rattle.dms_text_values.specs.ValueText.{octets_text}
use Rattle.dms_text_filling.proofs.Parts.{three, same}
use Rattle.dms_sign_state.specs.FieldsText.{source_line}
use Rattle.dms_sign_state.proofs.saving.put_source.Goals as goal

pub returns-clause-octets : goal.returns-clause-octets
returns-clause-octets c =
    same (ap (λ (s : ShownModel). source_line c.args.name.now (octets_of_id c.args.order s.source)) c.shown.view_is)
    (three c.put_texts-place.ensures.octets (same (ap octets_text c.to_bytes.ensures) c.put_octets-place.ensures.octets) c.put_text.ensures.octets)
