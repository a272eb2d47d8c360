use Rattle.std.proofs.Common.{◌≡◌, true, ◌∙◌, sym, subst}
use Rattle.dms_device.specs.Objects.{rises}
use Rattle.dms_device.proofs.Writes.{put_there, put_new, rises_published}
use Rattle.dms_device.proofs.places.put_object.Goals as goal

pub returns-in-Ok-clause-done : goal.returns-in-Ok-clause-done
returns-in-Ok-clause-done c =
    put_there c.name.result c.as_slice.result.now c.args.objects.now.items c.args.object c.in-Ok.place c.as_slice.ensures.value
    c.name.ensures c.requires c.in-Ok.ensures.within c.in-Ok.ensures.found

pub returns-in-Ok-clause-rises : goal.returns-in-Ok-clause-rises
returns-in-Ok-clause-rises c =
    subst (λ l. rises l ≡ true)
    (
    sym
    (
    put_there c.name.result c.as_slice.result.now c.args.objects.now.items c.args.object c.in-Ok.place c.as_slice.ensures.value
    c.name.ensures c.requires c.in-Ok.ensures.within c.in-Ok.ensures.found
    )
    )
    (rises_published c.args.objects.now.items c.args.object c.requires)

pub returns-in_ok-insert-in-Err-clause-done : goal.returns-in_ok-insert-in-Err-clause-done
returns-in_ok-insert-in-Err-clause-done c =
    c.in_ok-insert-in-Err.ensures.items
    ∙ put_new c.name.result c.as_slice.result.now c.args.objects.now.items c.args.object c.in-Err.place c.as_slice.ensures.value
    c.name.ensures c.in-Err.ensures.none c.in-Err.ensures.place

pub returns-in_ok-insert-in-Err-clause-rises : goal.returns-in_ok-insert-in-Err-clause-rises
returns-in_ok-insert-in-Err-clause-rises c =
    subst (λ l. rises l ≡ true)
    (
    sym
    (
    c.in_ok-insert-in-Err.ensures.items
    ∙ put_new c.name.result c.as_slice.result.now c.args.objects.now.items c.args.object c.in-Err.place c.as_slice.ensures.value
    c.name.ensures c.in-Err.ensures.none c.in-Err.ensures.place
    )
    )
    (rises_published c.args.objects.now.items c.args.object c.requires)
