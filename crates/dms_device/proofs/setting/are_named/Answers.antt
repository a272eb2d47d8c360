use Rattle.dms_wire.specs.View.{var_bind}
use Rattle.dms_device.proofs.Naming.{named_there, named_none, others_named, one_not}
use Rattle.dms_device.proofs.setting.are_named.Goals as goal

pub loop-binding-preserved : goal.loop-binding-preserved
loop-binding-preserved c =
    let b = var_bind c.in-Some.binding in
    others_named c.args.objects.now c.loop-binding.rest c.args.binds b c.next.new.self c.loop-binding.invariant c.in-Some.ensures.steps
    (named_there c.args.objects.now b c.in-Ok.field-0 c.requires c.in-Ok.ensures.within c.in-Ok.ensures.found)

pub returns-in-Err : goal.returns-in-Err
returns-in-Err c =
    let b = var_bind c.in-Some.binding in
    one_not c.args.objects.now c.loop-binding.rest c.args.binds b c.next.new.self c.loop-binding.invariant c.in-Some.ensures.steps
    (named_none c.args.objects.now b c.in-Err.ensures.none)
