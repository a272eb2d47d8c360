use Rattle.std.proofs.Common.{ap}
use Rattle.dms_wire_ber.specs.NameText.{dotted}
use Rattle.dms_text_values.specs.ValueText.{value_text}
use Rattle.dms_text_filling.proofs.Parts.{five, same}
use Rattle.dms_agent_state.proofs.saving.put_value_line.Goals as goal

pub returns : goal.returns
returns c =
    five c.put_text-place.ensures.octets (same (ap dotted c.name.ensures) c.put_name-place.ensures) c.put_text-place-2.ensures.octets
    (same (ap value_text c.value.ensures) c.put_value-place.ensures) c.put_text.ensures.octets
