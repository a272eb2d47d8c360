use Rattle.std.proofs.Common.{◌≡◌, true, sym, subst, arith}
use Rattle.dms_device.specs.Objects.{rises}
use Rattle.dms_device.proofs.Telling.{told_there, told_none, rises_told}
use Rattle.dms_device.proofs.places.tell_object.Goals as goal

pub returns-then-place-len-clause-done : goal.returns-then-place-len-clause-done
returns-then-place-len-clause-done c =
    told_there c.as_slice.result.now c.args.objects.now.items c.place_set-place.result c.index_mut-object.result.now c.tell.new.self
    c.as_slice.ensures.value c.place_set-place.ensures.place (omega arith) c.index_mut-object.ensures.value c.tell.ensures

pub returns-then-place-len-clause-rises : goal.returns-then-place-len-clause-rises
returns-then-place-len-clause-rises c =
    subst (λ l. rises l ≡ true) (
    sym (
    told_there c.as_slice.result.now c.args.objects.now.items c.place_set-place.result c.index_mut-object.result.now c.tell.new.self
    c.as_slice.ensures.value c.place_set-place.ensures.place (omega arith) c.index_mut-object.ensures.value c.tell.ensures
    )
    ) (rises_told c.args.objects.now.items c.requires)

pub returns-else-place-len-clause-done : goal.returns-else-place-len-clause-done
returns-else-place-len-clause-done c =
    told_none c.as_slice.result.now c.args.objects.now.items c.place_set-place.result c.as_slice.ensures.value c.place_set-place.ensures.place
    (omega arith)
