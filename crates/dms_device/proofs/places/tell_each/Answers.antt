use Rattle.std.proofs.Common.{◌∙◌, arith}
use Rattle.dms_device.specs.Taken.{told}
use Rattle.dms_codes.proofs.Loops.{mapped_more, mapped_all}
use Rattle.dms_device.proofs.places.tell_each.Goals as goal

pub loop-object-preserved : goal.loop-object-preserved
loop-object-preserved c =
    mapped_more told c.loop-object.object-index c.args.objects.now c.loop-object.objects c.object-item.result c.tell.new.self c.loop-object.invariant c.tell.ensures

pub returns : goal.returns
returns c = c.loop-object.invariant ∙ mapped_all told c.loop-object.object-index c.args.objects.now (omega arith)
