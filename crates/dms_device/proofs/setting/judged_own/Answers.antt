use Rattle.std.proofs.Common.{◌≡◌, ◌+◌, true, [], ◌∷◌, ◌++◌, take, refl, sym, subst, ◌∙◌}
use Rattle.dms_wire.specs.View.{var_bind}
use Rattle.dms_sign_access.specs.Slots.{AreTaken}
use Rattle.dms_device.specs.Setting.{is_named}
use Rattle.dms_device.proofs.Judging.{one_more, judged_more}
use Rattle.dms_device.proofs.Naming.{named_there, named_none, named_rest, named_more, named_not}
use Rattle.dms_device.proofs.setting.judged_own.Goals as goal

pub returns-in_default-place_of-clause-own : goal.returns-in_default-place_of-clause-own
returns-in_default-place_of-clause-own c =
    let b = var_bind c.in-Some.binding in
    named_not c.args.objects.now c.loop-binding.index c.loop-binding.rest c.args.binds.now b c.next.new.self c.loop-binding.invariant.2
    c.in-Some.ensures.steps (named_none c.args.objects.now b c.in_default-place_of.ensures.none)

pub returns-then-are_named-clause-own : goal.returns-then-are_named-clause-own
returns-then-are_named-clause-own c =
    let b = var_bind c.in-Some.binding in
    let is : is_named c.args.objects.now b ≡ true =
    named_there c.args.objects.now b c.in-Ok.place c.requires.rises c.in-Ok.ensures.within c.in-Ok.ensures.found
    in
    sym c.if-are_named.true ∙ c.are_named.ensures
    ∙ named_rest c.args.objects.now c.loop-binding.index c.loop-binding.rest c.args.binds.now b c.next.new.self c.loop-binding.invariant.2
    c.in-Some.ensures.steps is

pub loop-binding-preserved : goal.loop-binding-preserved
loop-binding-preserved c =
    let b = var_bind c.in-Some.binding in
    let index = c.loop-binding.index in
    let next : take index c.args.binds.now ++ b ∷ [] ≡ take (index + 1) c.args.binds.now =
    one_more c.args.objects.now c.args.may_write c.args.binds.now c.loop-binding.rest c.next.new.self index b c.loop-binding.invariant.0
    c.in-Some.ensures.steps
    in
    let is : is_named c.args.objects.now b ≡ true =
    named_there c.args.objects.now b c.in-Ok.place c.requires.rises c.in-Ok.ensures.within c.in-Ok.ensures.found
    in (
      judged_more c.args.objects.now c.args.may_write c.args.binds.now c.loop-binding.rest c.next.new.self index b c.loop-binding.invariant.0
          c.in-Some.ensures.steps c.in_default-checked.ensures,
      subst (AreTaken c.mark_name.new.slots) next (c.mark_name.ensures.taken (take index c.args.binds.now) b refl c.loop-binding.invariant.1),
      named_more c.args.objects.now index c.loop-binding.rest c.args.binds.now b c.next.new.self c.loop-binding.invariant.2
          c.in-Some.ensures.steps is,
    )
