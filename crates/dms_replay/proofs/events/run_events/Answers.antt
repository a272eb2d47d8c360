use Rattle.std.proofs.Common.{rules}
use Rattle.dms_text.specs.Lines.{number_after}
use Rattle.dms_replay.proofs.EventsRead.{refused_to, number_to}
use Rattle.dms_replay.proofs.events.run_events.Goals as goal

pub returns-in_err-step-clause-line : goal.returns-in_err-step-clause-line
returns-in_err-step-clause-line c =
    let bad = refused_to _ _ _ _ c.in-Some.line _ _ c.loop-line.invariant.to c.in-Some.ensures.line c.in_err-step.ensures.line in search (rules, bad)

pub returns-in_err-step-clause-number : goal.returns-in_err-step-clause-number
returns-in_err-step-clause-number c =
    let names = number_to _ _ _ _ c.in-Some.line _ _ (number_after c.args.lines) c.loop-line.invariant.to c.in-Some.ensures.line c.in_err-step.ensures.line c.in_err-step.ensures.number in
    search (rules, names)
