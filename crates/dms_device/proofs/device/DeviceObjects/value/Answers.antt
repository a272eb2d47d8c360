use Rattle.std.proofs.Common.{◌≡◌, Some, ◌∙◌, subst}
use Rattle.dms_wire.specs.View.{object_value}
use Rattle.dms_device.specs.Objects.{device_value}
use Rattle.dms_device.proofs.Found.{value_there, value_missing}
use Rattle.dms_device.proofs.device.DeviceObjects.value.Goals as goal

pub returns-in-Ok : goal.returns-in-Ok
returns-in-Ok c =
    subst (λ l. Some (object_value c.value.result) ≡ device_value l c.args.name.now) c.self.view_is (
    value_there c.args.name.now c.as_slice.result.now c.self.inside.objects.items c.in-Ok.place c.index-object.result.now
    (object_value c.value.result) c.as_slice.ensures.value c.self.invariant c.in-Ok.ensures.within c.in-Ok.ensures.found
    c.index-object.ensures c.value.ensures
    )

pub returns-in-Err : goal.returns-in-Err
returns-in-Err c =
    value_missing c.args.name.now c.as_slice.result.now c.args.self.now (c.as_slice.ensures.value ∙ c.self.view_is) c.in-Err.ensures.none
