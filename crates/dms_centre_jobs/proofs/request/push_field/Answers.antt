use Rattle.std.proofs.Common.{◌≡◌, ◌++◌, ◌∷◌, [], ap, subst, ◌∙◌}
use Rattle.dms_wire.specs.View.{object_value}
use Rattle.dms_wire.specs.Written.{octets_of_bindings}
use Rattle.dms_mib.specs.Names.{name_of}
use Rattle.dms_centre_jobs.proofs.request.push_field.Goals as goal

pub returns : goal.returns
unfolding name_of
returns c bindings before =
    subst (λ name. c.push.new.self ≡ octets_of_bindings (bindings ++ record { name = name; value = object_value c.args.value } ∷ []))
    (c.oid.ensures ∙ ap name_of c.of-name.ensures) (c.push.ensures bindings before)
