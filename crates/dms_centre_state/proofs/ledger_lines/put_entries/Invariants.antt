use Rattle.std.proofs.Common.{ℕ}
use Rattle.dms_centre.specs.CodeView.{entry_model}
use Rattle.dms_centre.specs.declared.ledger.Entry.{Entry}
use Rattle.dms_centre_state.specs.CentreText.{ledger_line}
use Rattle.dms_text_filling.proofs.Many.{Begun}
use Rattle.dms_centre_state.proofs.ledger_lines.put_entries.Given as goal

-- the entries before are put
abbrev pub invariant-loop-number : goal.invariant-loop-number
invariant-loop-number l =
    Begun (λ (entry : ℕ × Entry). ledger_line l.order (entry_model entry)) l.ledger.entries l.number-iterator l.place l.initial.buffer l.end l.buffer
