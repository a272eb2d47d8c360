use Rattle.std.proofs.Common.{◌≡◌, ◌<◌, ℕ, List, length, Some, None, ap₂, subst, arith}
use Rattle.dms_wire.specs.Message.{ObjectValue, VarBind}
use Rattle.dms_mib_replies.specs.Next.{next_binding}
use Rattle.dms_mib_replies.specs.declared.objects.NextName.TheVariants.{Lent}
use Rattle.dms_device.specs.Objects.{device_after}
use Rattle.dms_device.proofs.Found.{after_there, after_missing}
use Rattle.dms_device.proofs.device.DeviceObjects.next.Goals as goal

abbrev bound : List ℕ → ObjectValue → VarBind
bound name value = record { name = name; value = value }

pub returns-then-place-len : goal.returns-then-place-len
returns-then-place-len c =
    subst (λ l. None ≡ device_after l c.args.name.now) c.self.view_is
    (after_missing c.args.name.now c.as_slice.result.now c.self.inside.objects.items c.place_after-place.result c.as_slice.ensures.value c.place_after-place.ensures.place (omega arith))

pub returns : goal.returns
returns c =
    let place = c.place_after-place.result in
    let within : place < length c.self.inside.objects.items =
    subst (λ l. place < length l) c.as_slice.ensures.value (omega arith) in
    let same = ap₂ bound c.name.ensures c.value.ensures in
    subst (λ l. Some (next_binding (record { name = Lent c.name.result; value = c.value.result })) ≡ device_after l c.args.name.now) c.self.view_is
    (after_there c.args.name.now c.as_slice.result.now c.self.inside.objects.items place c.index-object.result.now
    (next_binding (record { name = Lent c.name.result; value = c.value.result })) c.as_slice.ensures.value c.place_after-place.ensures.place within
    c.index-object.ensures same)
