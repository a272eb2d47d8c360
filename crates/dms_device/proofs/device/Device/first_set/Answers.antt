use Rattle.std.proofs.Common.{◌≡◌, ◌<◌, ℕ, List, length, Some, None, slice_get, ap₂, subst, arith}
use Rattle.dms_wire.specs.Message.{ObjectValue, VarBind}
use Rattle.dms_wire.specs.View.{var_bind}
use Rattle.dms_device.specs.Taken.{set_bindings}
use Rattle.dms_device.proofs.Telling.{first_there, first_missing}
use Rattle.dms_device.proofs.device.Device.first_set.Goals as goal

abbrev bound : List ℕ → ObjectValue → VarBind
bound name value = record { name = name; value = value }

pub returns-then-place-len : goal.returns-then-place-len
returns-then-place-len c =
    subst (λ l. None ≡ slice_get (set_bindings l) 0) c.self.view_is
    (first_missing c.as_slice.result.now c.self.inside.objects.items c.place_set-place.result c.as_slice.ensures.value c.place_set-place.ensures.place (omega arith))

pub returns : goal.returns
returns c =
    let place = c.place_set-place.result in
    let within : place < length c.self.inside.objects.items =
    subst (λ l. place < length l) c.as_slice.ensures.value (omega arith) in
    let same = ap₂ bound c.name.ensures c.value.ensures in
    subst (λ l. Some (var_bind (record { name = c.name.result; value = c.value.result })) ≡ slice_get (set_bindings l) 0) c.self.view_is
    (first_there c.as_slice.result.now c.self.inside.objects.items place c.index-object.result.now
    (var_bind (record { name = c.name.result; value = c.value.result })) c.as_slice.ensures.value c.place_set-place.ensures.place within
    c.index-object.ensures same)
