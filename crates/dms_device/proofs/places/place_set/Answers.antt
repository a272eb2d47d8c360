use Rattle.std.proofs.Common.{sym, ◌∙◌}
use Rattle.dms_device.proofs.Telling.{first_was_set, none_was_set}
use Rattle.dms_device.proofs.places.place_set.Goals as goal

pub returns-then-is_set-clause-place : goal.returns-then-is_set-clause-place
returns-then-is_set-clause-place c =
    first_was_set c.args.objects.now c.loop-place.place c.index-objects-place.result c.loop-place-test.true c.loop-place.invariant
    c.index-objects-place.is (sym c.is_set.ensures ∙ c.if-is_set.true)

pub returns-clause-place : goal.returns-clause-place
returns-clause-place c = none_was_set c.args.objects.now c.loop-place.place c.loop-place-test.false c.loop-place.invariant
