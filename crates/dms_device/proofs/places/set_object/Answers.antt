use Rattle.dms_wire.specs.View.{var_bind}
use Rattle.dms_device.proofs.Writes.{set_none}
use Rattle.dms_device.proofs.places.set_object.Goals as goal

pub returns-in_default-clause-done : goal.returns-in_default-clause-done
returns-in_default-clause-done c =
    set_none (var_bind c.args.binding.now) c.as_slice.result.now c.args.objects.now.items c.as_slice.ensures.value c.in_default.ensures.none
