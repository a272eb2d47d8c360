use Rattle.std.proofs.Common.{ℕ, ◌∙◌, arith}
use Rattle.std.specs.Map.Iter.{deref_pair}
use Rattle.dms_centre.specs.CodeView.{entry_model}
use Rattle.dms_centre.specs.declared.ledger.Entry.{Entry}
use Rattle.dms_centre_state.specs.CentreText.{ledger_line}
use Rattle.dms_text_filling.proofs.Many.{none_put, one_more, all_put}
use Rattle.dms_centre_state.proofs.ledger_lines.put_entries.Goals as goal

pub loop-number-init : goal.loop-number-init
loop-number-init c =
    none_put (λ (entry : ℕ × Entry). ledger_line c.args.order (entry_model entry)) c.args.ledger.now.entries c.into_iter-number-iterator.result c.args.place c.args.buffer.now
    (c.into_iter-number-iterator.ensures.into_iter_gives ∙ c.iter-number-items.ensures.rest) (omega arith) (omega arith)

pub loop-number-preserved : goal.loop-number-preserved
loop-number-preserved c =
    one_more (λ (entry : ℕ × Entry). ledger_line c.args.order (entry_model entry)) c.args.ledger.now.entries c.loop-number.number-iterator c.next.new.self
    (deref_pair (c.in-Some.number, c.in-Some.entry)) c.args.place c.loop-number.end c.put_entry-end.result c.args.buffer.now c.loop-number.buffer c.put_entry-end.new.buffer
    c.loop-number.invariant c.in-Some.ensures.steps c.put_entry-end.ensures

pub returns : goal.returns
returns c =
    all_put (λ (entry : ℕ × Entry). ledger_line c.args.order (entry_model entry)) c.args.ledger.now.entries c.loop-number.number-iterator c.args.place c.loop-number.end
    c.args.buffer.now c.loop-number.buffer c.loop-number.invariant c.in-None.ensures.steps.0
