use Rattle.std.proofs.Common.{◌≡◌, true, ◌∙◌, sym, subst}
use Rattle.dms_device.specs.Objects.{rises}
use Rattle.dms_device.proofs.Writes.{take_there, take_none, rises_withdrawn}
use Rattle.dms_device.proofs.places.take_object.Goals as goal

pub returns-in-Ok-clause-done : goal.returns-in-Ok-clause-done
returns-in-Ok-clause-done c =
    c.remove.ensures.items
    ∙ take_there c.args.name.now c.as_slice.result.now c.args.objects.now.items c.in-Ok.place c.remove.result c.as_slice.ensures.value
    c.requires c.in-Ok.ensures.within c.in-Ok.ensures.found

pub returns-in-Ok-clause-rises : goal.returns-in-Ok-clause-rises
returns-in-Ok-clause-rises c =
    subst (λ l. rises l ≡ true)
    (
    sym
    (
    c.remove.ensures.items
    ∙ take_there c.args.name.now c.as_slice.result.now c.args.objects.now.items c.in-Ok.place c.remove.result c.as_slice.ensures.value
    c.requires c.in-Ok.ensures.within c.in-Ok.ensures.found
    )
    )
    (rises_withdrawn c.args.name.now c.args.objects.now.items c.requires)

pub returns-in-Err-clause-done : goal.returns-in-Err-clause-done
returns-in-Err-clause-done c = take_none c.args.name.now c.as_slice.result.now c.args.objects.now.items c.as_slice.ensures.value c.in-Err.ensures.none
