use Rattle.std.proofs.Common.{◌≡◌, ◌++◌, ◌∷◌, [], ◌∙◌, ℤ, FitsSigned, rules, subst, w64}
use Rattle.std.proofs.lemmas.Int.{to_z-of_z}
use Rattle.dms_wire.specs.Message.{integer}
use Rattle.dms_wire.specs.Written.{octets_of_bindings}
use Rattle.dms_mib.specs.Names.{cell_name}
use Rattle.dms_centre_jobs.proofs.request.push_number.Goals as goal

pub returns : goal.returns
returns c bindings before =
    let fits : FitsSigned w64 c.from.result = search rules in
    subst (λ (z : ℤ). c.push_field.new.fields ≡ octets_of_bindings (bindings ++ record { name = cell_name c.args.column c.args.row; value = integer z } ∷ []))
    (to_z-of_z w64 c.from.result fits ∙ c.from.ensures) (c.push_field.ensures bindings before)
