use Rattle.dms_centre_restored.proofs.SameFront.{all_same}
use Rattle.dms_centre_restored.proofs.restoring.same_front.Goals as goal

pub returns : goal.returns
returns c =
    all_same c.args.one.now c.args.other.now c.min-most.result c.loop-index.index c.min-most.ensures c.loop-index-test.false c.loop-index.auto.index-end c.loop-index.invariant
