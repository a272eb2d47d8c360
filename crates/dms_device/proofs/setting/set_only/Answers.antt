use Rattle.dms_wire.specs.View.{var_bind}
use Rattle.dms_device.proofs.Only.{only_named, only_not_named}
use Rattle.dms_device.proofs.setting.set_only.Goals as goal

pub returns-in_default-clause-own : goal.returns-in_default-clause-own
returns-in_default-clause-own c =
    only_not_named c.as_slice.result.now c.args.objects.now.items c.args.binds.now (var_bind c.args.binding.now) c.as_slice.ensures.value
    c.requires.only c.in_default.ensures.none

pub returns-in-Err-clause-own : goal.returns-in-Err-clause-own
returns-in-Err-clause-own c =
    only_named c.as_slice.result.now c.args.objects.now.items c.args.binds.now (var_bind c.args.binding.now) c.in-Ok.place
    c.as_slice.ensures.value c.requires.only c.requires.rises c.in-Ok.ensures.within c.in-Ok.ensures.found
