use Rattle.std.proofs.Common.{length, ap, ◌∙◌, arith}
use Rattle.dms_text_filling.proofs.Parts.{two, same}
use Rattle.dms_sign.specs.State.{SignState}
use Rattle.dms_sign_state.specs.StateText.{text_of_state, saved_rows, most_saved}
use Rattle.dms_agent_state.specs.AgentText.{kept_lines}
use Rattle.dms_agent_state.proofs.saving.put_state.Goals as goal

pub returns-clause-octets : goal.returns-clause-octets
returns-clause-octets c =
    two (same (ap text_of_state c.sign.ensures) c.put_sign-place.ensures.octets)
    (same (ap kept_lines (c.objects.ensures ∙ c.device.ensures)) c.put_lines.ensures)

pub returns-clause-short : goal.returns-clause-short
returns-clause-short c =
    let lines = ap (λ objects. length (kept_lines objects)) (c.objects.ensures ∙ c.device.ensures) in
    let rows = ap (λ (s : SignState). most_saved (saved_rows s)) c.sign.ensures in
    omega (arith, c.put_lines.ensures.place, c.put_sign-place.ensures.short, lines, rows)
