use Rattle.std.proofs.Common.{rules}
use Rattle.dms_text.specs.Lines.{number_after}
use Rattle.dms_replay.proofs.EventsRead.{refused_to, number_to}
use Rattle.dms_replay.proofs.events.check_events.Goals as goal

pub returns-in_err-check-clause-line : goal.returns-in_err-check-clause-line
returns-in_err-check-clause-line c =
    let bad = refused_to _ _ _ _ c.in-Some.line _ _ c.loop-line.invariant.to c.in-Some.ensures.line c.in_err-check.ensures.line in search (rules, bad)

pub returns-in_err-check-clause-number : goal.returns-in_err-check-clause-number
returns-in_err-check-clause-number c =
    let names = number_to _ _ _ _ c.in-Some.line _ _ (number_after c.args.lines) c.loop-line.invariant.to c.in-Some.ensures.line c.in_err-check.ensures.line c.in_err-check.ensures.number in
    search (rules, names)
