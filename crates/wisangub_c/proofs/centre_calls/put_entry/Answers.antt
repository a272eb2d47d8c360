use Rattle.std.proofs.Common.{◌∙◌, None, sym, ap}
use Rattle.wisangub_c.specs.Centre.{entry_answer, entry_after}
use Rattle.wisangub_c.proofs.Entries.{entry_at}
use Rattle.wisangub_c.proofs.centre_calls.put_entry.Goals as goal

pub returns-in-Some-clause-entry : goal.returns-in-Some-clause-entry
returns-in-Some-clause-entry c =
    let at = entry_at c.ledger.result.now.entries c.args.centre.now.state.ledger c.args.index _ c.ledger.ensures c.in-Some.ensures.entry in
    c.ledger_entry.ensures ∙ ap (λ found. entry_after found c.args.entry.now) (sym at)

pub returns-in-None-clause-answer : goal.returns-in-None-clause-answer
returns-in-None-clause-answer c =
    let at = entry_at c.ledger.result.now.entries c.args.centre.now.state.ledger c.args.index None c.ledger.ensures c.in-None.ensures.entry in
    ap entry_answer (sym at)

pub returns-in-None-clause-entry : goal.returns-in-None-clause-entry
returns-in-None-clause-entry c =
    let at = entry_at c.ledger.result.now.entries c.args.centre.now.state.ledger c.args.index None c.ledger.ensures c.in-None.ensures.entry in
    ap (λ found. entry_after found c.args.entry.now) (sym at)
