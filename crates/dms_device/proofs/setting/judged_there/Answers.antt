use Rattle.std.proofs.Common.{take, sym, ◌∙◌}
use Rattle.dms_wire.specs.View.{var_bind}
use Rattle.dms_device.proofs.Judging.{object_of, not_to_be_set, not_admitted, given_before, not_refused}
use Rattle.dms_device.proofs.setting.judged_there.Goals as goal

pub returns-then-not-is_written : goal.returns-then-not-is_written
returns-then-not-is_written c =
    let b = var_bind c.args.binding.now in
    let is =
    object_of c.args.objects.now b c.access-access.result c.args.place c.index-objects-place.result c.requires.rises c.requires.within
    c.requires.found c.index-objects-place.is c.access-access.ensures
    in
    not_to_be_set c.args.objects.now c.args.may_write (take c.args.index c.args.before.now) b c.access-access.result is
    (sym c.is_written.ensures ∙ c.if-not-is_written.true)

pub returns-then-not-admits : goal.returns-then-not-admits
returns-then-not-admits c =
    let b = var_bind c.args.binding.now in
    let is =
    object_of c.args.objects.now b c.access-access.result c.args.place c.index-objects-place.result c.requires.rises c.requires.within
    c.requires.found c.index-objects-place.is c.access-access.ensures
    in
    not_admitted c.args.objects.now c.args.may_write (take c.args.index c.args.before.now) b c.access-access.result is c.if-not-may_write.false
    (sym c.is_written.ensures ∙ c.if-not-is_written.false) (sym c.admits.ensures ∙ c.if-not-admits.true)

pub returns-then-was_given : goal.returns-then-was_given
returns-then-was_given c =
    let b = var_bind c.args.binding.now in
    let is =
    object_of c.args.objects.now b c.access-access.result c.args.place c.index-objects-place.result c.requires.rises c.requires.within
    c.requires.found c.index-objects-place.is c.access-access.ensures
    in
    given_before c.args.objects.now c.args.may_write (take c.args.index c.args.before.now) b c.access-access.result is c.if-not-may_write.false
    (sym c.is_written.ensures ∙ c.if-not-is_written.false) (sym c.admits.ensures ∙ c.if-not-admits.false)
    (sym c.was_given.ensures ∙ c.if-was_given.true)

pub returns : goal.returns
returns c =
    let b = var_bind c.args.binding.now in
    let is =
    object_of c.args.objects.now b c.access-access.result c.args.place c.index-objects-place.result c.requires.rises c.requires.within
    c.requires.found c.index-objects-place.is c.access-access.ensures
    in
    not_refused c.args.objects.now c.args.may_write (take c.args.index c.args.before.now) b c.access-access.result is c.if-not-may_write.false
    (sym c.is_written.ensures ∙ c.if-not-is_written.false) (sym c.admits.ensures ∙ c.if-not-admits.false)
    (sym c.was_given.ensures ∙ c.if-was_given.false)
