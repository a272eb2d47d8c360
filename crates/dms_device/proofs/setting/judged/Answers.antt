use Rattle.std.proofs.Common.{◌≡◌, ◌+◌, [], ◌∷◌, ◌++◌, take, refl, subst}
use Rattle.dms_wire.specs.View.{var_bind}
use Rattle.dms_sign_access.specs.Slots.{AreTaken}
use Rattle.dms_device.proofs.Judging.{one_more, judged_more}
use Rattle.dms_device.proofs.setting.judged.Goals as goal

pub loop-binding-preserved : goal.loop-binding-preserved
loop-binding-preserved c =
    let b = var_bind c.in-Some.binding in
    let index = c.loop-binding.index in
    let next : take index c.args.binds.now ++ b ∷ [] ≡ take (index + 1) c.args.binds.now =
    one_more c.args.objects.now c.args.may_write c.args.binds.now c.loop-binding.rest c.next.new.self index b c.loop-binding.invariant.0
    c.in-Some.ensures.steps
    in (
      judged_more c.args.objects.now c.args.may_write c.args.binds.now c.loop-binding.rest c.next.new.self index b c.loop-binding.invariant.0
          c.in-Some.ensures.steps c.in_default-checked.ensures,
      subst (AreTaken c.mark_name.new.slots) next (c.mark_name.ensures.taken (take index c.args.binds.now) b refl c.loop-binding.invariant.1),
    )
