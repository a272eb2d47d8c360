use Rattle.std.proofs.Common.{◌≡◌, true, sym, subst}
use Rattle.dms_wire.specs.View.{object_value}
use Rattle.dms_device.specs.Object.{fits}
use Rattle.dms_device.specs.View.{HasRoom}
use Rattle.dms_device.proofs.Faultless.{faultless, held_for}
use Rattle.dms_device.proofs.object.PublishedObject.held.Goals as goal

pub held-requires : goal.held-requires
held-requires c = (faultless c.args.name.now (object_value c.args.value.now) c.args.access c.requires).name

pub invariant_of-result : goal.invariant_of-result
invariant_of-result c =
    let fit = (faultless c.args.name.now (object_value c.args.value.now) c.args.access c.requires).fit in
    let held = c.in_ok-value.value in
    held_for c.args.access held (subst (λ v. fits c.args.access v ≡ true) (sym c.in_ok-value.ensures.value) fit)
    (subst (λ room. HasRoom room held) c.room.ensures c.in_ok-value.ensures.room)
