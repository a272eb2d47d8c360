use Rattle.std.proofs.Common.{◌++◌, flat_map, ap, ◌∙◌}
use Rattle.indexmap.proofs.MapLemmas.{OnOk-map}
use Rattle.dms_centre.specs.CodeView.{entry_model}
use Rattle.dms_centre_text.specs.LedgerLine.{ledger_line}
use Rattle.dms_centre_text.proofs.LedgerLines.{flat_seen}
use Rattle.dms_centre_text.proofs.ledger_text.put_ledger.Goals as goal

pub returns-clause-text : goal.returns-clause-text
returns-clause-text c =
    let lines = ledger_line c.args.centre.now.state.settings.order in
    let old = c.args.report.now.items in
    let entries = c.ledger.result.now.entries in
    let in_order = ap (λ order. old ++ flat_map (λ entry. ledger_line order (entry_model entry)) entries) c.order.ensures in
    let as_seen = ap (λ xs. old ++ xs) (flat_seen lines entry_model entries ∙ ap (flat_map lines) c.ledger.ensures) in
    OnOk-map c.put_entries.result _ _ (λ put. put ∙ in_order ∙ as_seen) c.put_entries.ensures.text
