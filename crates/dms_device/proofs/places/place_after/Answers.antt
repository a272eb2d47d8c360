use Rattle.std.proofs.Common.{◌+◌, ◌-◌, ◌/◌, arith, sym, ◌∙◌}
use Rattle.dms_device.proofs.Found.{halved_starts, halved_down, halved_up, halved_ends}
use Rattle.dms_device.proofs.places.place_after.Goals as goal

pub loop-low-init : goal.loop-low-init
loop-low-init c = halved_starts c.args.name.now c.args.objects.now

pub loop-low-preserved : goal.loop-low-preserved
loop-low-preserved c =
    halved_up c.args.name.now c.args.objects.now c.loop-low.low c.loop-low.high (c.loop-low.low + (c.loop-low.high - c.loop-low.low) / 2)
    c.index-objects-middle.result c.requires c.loop-low.invariant (omega arith) (omega arith) c.index-objects-middle.is
    (sym c.comes_after.ensures ∙ c.if-comes_after.false)

pub loop-low-preserved-then-comes_after : goal.loop-low-preserved-then-comes_after
loop-low-preserved-then-comes_after c =
    halved_down c.args.name.now c.args.objects.now c.loop-low.low c.loop-low.high (c.loop-low.low + (c.loop-low.high - c.loop-low.low) / 2)
    c.index-objects-middle.result c.loop-low.invariant (omega arith) (omega arith) c.index-objects-middle.is
    (sym c.comes_after.ensures ∙ c.if-comes_after.true)

pub returns-clause-place : goal.returns-clause-place
returns-clause-place c = halved_ends c.args.name.now c.args.objects.now c.loop-low.low c.loop-low.high c.loop-low.invariant c.loop-low-test.false
