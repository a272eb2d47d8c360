use Rattle.dms_replay.proofs.ScriptRead.{no_sign, no_events, events_refused}
use Rattle.dms_replay.proofs.script.check_script.Goals as goal

pub returns-in-Err-clause-line : goal.returns-in-Err-clause-line
returns-in-Err-clause-line c = no_sign c.args.octets.now c.in-Err.fault c.in-Err.ensures.line

pub returns-clause-line : goal.returns-clause-line
returns-clause-line c =
    no_events c.args.octets.now _ _ _ _ c.in-Ok.ensures.read c.order.ensures c.in-Err-check_events.ensures.line

pub returns-clause-number : goal.returns-clause-number
returns-clause-number c =
    events_refused c.args.octets.now c.in-Ok.found.1 c.in-Ok.found.0 c.order.result c.in-Err-check_events.fault c.in-Ok.ensures.read c.in-Ok.ensures.last
    c.order.ensures c.in-Err-check_events.ensures.line c.in-Err-check_events.ensures.number
