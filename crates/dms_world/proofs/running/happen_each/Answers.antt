use Rattle.std.proofs.Common.{sym, ◌∙◌, arith}
use Rattle.dms_world.specs.CodeView.{events_model, seen}
use Rattle.dms_world.proofs.Runs.{on_err, on_ok, event_at, within_events, stops_at, one_more_event, after_prefix, one_more_is_event, prefix_are_events, are_all_events, all_are_events}
use Rattle.dms_world.proofs.running.happen_each.Goals as goal

pub returns-then-is_err-clause-world : goal.returns-then-is_err-clause-world
returns-then-is_err-clause-world c =
    let unchanged = on_err c.happen.result _ (sym c.is_err.ensures.value ∙ c.if-is_err.true) c.happen.ensures.unchanged in
    let within = within_events c.args.events.now c.loop-done.done c.loop-done-test.true in
    unchanged ∙ c.loop-done.invariant.world ∙ after_prefix (seen c.args.world.now) (events_model c.args.events.now) c.loop-done.done within

pub returns-then-is_err-clause-stopped : goal.returns-then-is_err-clause-stopped
returns-then-is_err-clause-stopped c = grind (arith, on_err, stops_at)

pub returns-then-is_err-clause-ranges : goal.returns-then-is_err-clause-ranges
returns-then-is_err-clause-ranges c = prefix_are_events (events_model c.args.events.now) c.loop-done.done c.loop-done.invariant.ranges

pub loop-done-preserved : goal.loop-done-preserved
loop-done-preserved c = grind (arith, event_at, on_ok, one_more_event, one_more_is_event)

pub returns-clause-ranges : goal.returns-clause-ranges
returns-clause-ranges c =
    all_are_events (events_model c.args.events.now)
    (are_all_events c.args.events.now c.loop-done.done c.loop-done-test.false c.loop-done.invariant.ranges)
