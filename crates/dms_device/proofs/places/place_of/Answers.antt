use Rattle.std.proofs.Common.{◌≡◌, ◌-◌, true, false, ◌∙◌, sym, subst, arith}
use Rattle.dms_device.specs.Objects.{has_name}
use Rattle.dms_device.proofs.Found.{no_name, read}
use Rattle.dms_device.proofs.places.place_of.Goals as goal

pub returns-then-after-eq0-clause-none : goal.returns-then-after-eq0-clause-none
returns-then-after-eq0-clause-none c =
    no_name c.args.name.now c.args.objects.now c.place_after-after.result c.requires c.place_after-after.ensures.place λ d lt. absurd (omega arith)

pub returns-then-has_name-clause-found : goal.returns-then-has_name-clause-found
returns-then-has_name-clause-found c = λ d.
    let k = c.place_after-after.result - 1 in
    let x = c.index-objects-after.result in
    subst (λ o. has_name c.args.name.now o ≡ true) (sym (read c.args.objects.now k x d (omega arith) c.index-objects-after.is))
    (sym c.has_name.ensures ∙ c.if-has_name.true)

pub returns-else-has_name-clause-none : goal.returns-else-has_name-clause-none
returns-else-has_name-clause-none c =
    let k = c.place_after-after.result - 1 in
    let x = c.index-objects-after.result in
    no_name c.args.name.now c.args.objects.now c.place_after-after.result c.requires c.place_after-after.ensures.place
    λ d lt.
    subst (λ o. has_name c.args.name.now o ≡ false) (sym (read c.args.objects.now k x d (omega arith) c.index-objects-after.is))
    (sym c.has_name.ensures ∙ c.if-has_name.false)
