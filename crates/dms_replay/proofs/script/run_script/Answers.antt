use Rattle.dms_replay.proofs.ScriptRead.{no_sign, no_events, events_refused, few_lines}
use Rattle.dms_replay.proofs.script.run_script.Goals as goal

pub run_events-requires : goal.run_events-requires
run_events-requires c = few_lines c.args.octets.now c.in-Ok.found.1 c.in-Ok.found.0 c.requires c.in-Ok.ensures.read

pub returns-in-Err-clause-line : goal.returns-in-Err-clause-line
returns-in-Err-clause-line c = no_sign c.args.octets.now c.in-Err.fault c.in-Err.ensures.line

pub returns-in-Err-run_events-clause-line : goal.returns-in-Err-run_events-clause-line
returns-in-Err-run_events-clause-line c =
    no_events c.args.octets.now _ _ _ _ c.in-Ok.ensures.read c.order-order.ensures c.in-Err-run_events.ensures.line

pub returns-in-Err-run_events-clause-number : goal.returns-in-Err-run_events-clause-number
returns-in-Err-run_events-clause-number c =
    events_refused c.args.octets.now c.in-Ok.found.1 c.in-Ok.found.0 c.order-order.result c.in-Err-run_events.fault c.in-Ok.ensures.read c.in-Ok.ensures.last
    c.order-order.ensures c.in-Err-run_events.ensures.line c.in-Err-run_events.ensures.number
