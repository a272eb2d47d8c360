use Rattle.std.proofs.Common.{codes, ap, ◌∙◌}
use Rattle.dms_text_filling.proofs.Parts.{six, same}
use Rattle.dms_centre.specs.CodeView.{lent_phase}
use Rattle.dms_centre_state.specs.CentreText.{number_line, last_line, phase_text, text_of_state}
use Rattle.dms_centre_state.proofs.saving.put_state.Goals as goal

pub returns : goal.returns
unfolding text_of_state
returns c =
    six c.put_text-place.ensures.octets (same (ap (λ n. number_line (codes "next") n) c.next_number.ensures) c.put_number-place.ensures.octets)
    (same (ap last_line c.last.ensures) c.put_last-place.ensures)
    (same (ap (λ order. phase_text order (lent_phase c.phase.result)) c.order.ensures ∙ ap (λ phase. phase_text c.args.centre.now.state.settings.order phase) c.phase.ensures)
    c.put_phase-place.ensures)
    c.put_ledger-place.ensures c.put_text.ensures.octets
