use Rattle.std.proofs.Common.{flat_map, ap, ◌∙◌}
use Rattle.dms_text_filling.proofs.Parts.{same}
use Rattle.dms_centre.specs.CodeView.{entry_model}
use Rattle.dms_centre_state.specs.CentreText.{ledger_line}
use Rattle.dms_centre_state.proofs.Lines.{flat_seen}
use Rattle.dms_centre_state.proofs.ledger_lines.put_ledger.Goals as goal

pub returns : goal.returns
returns c =
    let entries = c.ledger.result.now.entries in
    let lines = ledger_line c.args.centre.now.state.settings.order in
    same
    (ap (λ order. flat_map (λ entry. ledger_line order (entry_model entry)) entries) c.order.ensures ∙ flat_seen lines entry_model entries ∙ ap (flat_map lines) c.ledger.ensures)
    c.put_entries.ensures
