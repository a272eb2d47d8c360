use Rattle.std.proofs.Common.{◌≡◌, true, refl, sym, subst}
use Rattle.dms_wire.specs.View.{var_bind}
use Rattle.dms_device.specs.Objects.{rises}
use Rattle.dms_device.proofs.Writes.{set_at, rises_set}
use Rattle.dms_device.proofs.places.set_there.Goals as goal

pub returns-clause-done : goal.returns-clause-done
returns-clause-done c =
    set_at (var_bind c.args.binding.now) c.args.objects.now.items c.args.objects.now.items c.args.place c.index_mut-object.result.now c.set.new.self
    refl c.requires.rises c.requires.within c.requires.found c.index_mut-object.ensures.value c.set.ensures

pub returns-clause-rises : goal.returns-clause-rises
returns-clause-rises c =
    subst (λ l. rises l ≡ true)
    (
    sym
    (
    set_at (var_bind c.args.binding.now) c.args.objects.now.items c.args.objects.now.items c.args.place c.index_mut-object.result.now c.set.new.self
    refl c.requires.rises c.requires.within c.requires.found c.index_mut-object.ensures.value c.set.ensures
    )
    )
    (rises_set (var_bind c.args.binding.now) c.args.objects.now.items c.requires.rises)
