use Rattle.std.proofs.Common.{◌≡◌, ℕ, Some, ap, sym, refl, ◌∙◌}
use Rattle.std.proofs.lemmas.Option.{same_Some}
use Rattle.dms_mib.proofs.NameLaws.{object_named}
use Rattle.dms_mib.specs.declared.instance.Instance.TheVariants.{Scalar}
use Rattle.dms_mib_instances.specs.NameReading.{scalar_at}
use Rattle.dms_mib_instances.proofs.Inverses.{scalar_back}
use Rattle.dms_mib_instances.proofs.octets.object_named.Goals as goal

pub returns-clause-named : goal.returns-clause-named
returns-clause-named c = object_named c.in_ok-scalar_of.field-0 _ _ (sym c.in_ok-scalar_of.ensures.named) refl

pub returns-clause-found : goal.returns-clause-found
returns-clause-found c = λ object is.
    let same : c.in_ok-scalar_of.field-0 ≡ object =
    same_Some c.in_ok-scalar_of.field-0 object
    (c.in_ok-scalar_of.ensures.found ∙ ap (λ (n : ℕ × ℕ). scalar_at n.0 n.1) (sym is) ∙ scalar_back object) in
    ap (λ x. Some (Scalar x)) same
