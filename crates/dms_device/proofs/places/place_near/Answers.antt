use Rattle.std.proofs.Common.{◌≡◌, true, ◌∙◌, sym, subst, arith}
use Rattle.dms_device.specs.Objects.{has_name}
use Rattle.dms_device.proofs.Found.{read}
use Rattle.dms_device.proofs.places.place_near.Goals as goal

pub returns-then-has_name-clause-found : goal.returns-then-has_name-clause-found
returns-then-has_name-clause-found c = λ d.
    subst (λ o. has_name c.args.name.now o ≡ true)
    (sym (read c.args.objects.now c.args.near c.index-objects-near.result d (omega arith) c.index-objects-near.is))
    (sym c.has_name.ensures ∙ c.if-has_name.true)
