use Rattle.std.proofs.Common.{◌≡◌, ◌++◌, ℕ, map, flat_map}
use Rattle.std.specs.Map.Iter.{deref_pair}
use Rattle.dms_centre.specs.CodeView.{entry_model}
use Rattle.dms_centre.specs.declared.ledger.Entry.{Entry}
use Rattle.dms_centre_text.specs.LedgerLine.{ledger_line}
use Rattle.dms_centre_text.proofs.ledger_text.put_entries.Given as goal

abbrev pub invariant-loop-number : goal.invariant-loop-number
invariant-loop-number l =
    l.report.items ≡ l.initial.report.items ++ flat_map (λ (entry : ℕ × Entry). ledger_line l.order (entry_model entry)) (map deref_pair l.yielded)
