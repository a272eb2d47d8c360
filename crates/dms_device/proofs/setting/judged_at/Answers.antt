use Rattle.std.proofs.Common.{take}
use Rattle.dms_wire.specs.View.{var_bind}
use Rattle.dms_device.proofs.Judging.{no_object}
use Rattle.dms_device.proofs.setting.judged_at.Goals as goal

pub returns-in-Err : goal.returns-in-Err
returns-in-Err c =
    no_object c.args.objects.now c.args.may_write (take c.args.index c.args.before.now) (var_bind c.args.binding.now) c.in-Err.ensures.none
