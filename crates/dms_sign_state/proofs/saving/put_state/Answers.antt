use Rattle.std.proofs.Common.{codes, ap, ◌∙◌}
use Rattle.dms_text_filling.proofs.Parts.{eight, same}
use Rattle.dms_sign_state.specs.FieldsText.{number_line, settings_text, reports_text, last_lines, text_of_fields}
use Rattle.dms_sign_state.specs.StateText.{table_text, shown_text, text_of_state}
use Rattle.dms_sign_state.proofs.saving.put_state.Goals as goal

pub returns-clause-octets : goal.returns-clause-octets
unfolding text_of_state text_of_fields
returns-clause-octets c =
    let s = c.args.sign.now in
    eight c.put_text-place.ensures.octets (same (ap table_text c.table.ensures) c.put_table-place.ensures.octets)
    (same (ap settings_text c.settings.ensures) c.put_settings-place.ensures.octets)
    (same (ap (λ n. number_line (codes "silent") n) c.silent_seconds.ensures) c.put_number-place.ensures.octets)
    (same
    (ap (λ o. shown_text (codes "shown") o c.shown.result.now) c.order.ensures ∙ ap (λ t. shown_text (codes "shown") s.table.order t) c.shown.ensures)
    c.put_shown-place.ensures.octets)
    (same
    (ap (λ o. shown_text (codes "kept") o c.shown_at_power_loss-kept.result.now) c.order-2.ensures
    ∙ ap (λ t. shown_text (codes "kept") s.table.order t) c.shown_at_power_loss-kept.ensures)
    c.put_shown-place-2.ensures.octets)
    (same (ap reports_text c.reports.ensures) c.put_reports-place.ensures.octets) (same (ap last_lines c.is_powered.ensures) c.put_last.ensures.octets)
