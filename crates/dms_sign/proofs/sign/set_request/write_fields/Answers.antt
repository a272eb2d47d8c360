use Rattle.std.proofs.Common.{◌++◌, [], ◌∷◌, sym, ap, ◌∙◌}
use Rattle.std.specs.Prelude.{option_map}
use Rattle.std.proofs.lemmas.List.{append_assoc}
use Rattle.dms_wire.specs.View.{var_bind}
use Rattle.dms_sign_access.specs.ChangeView.{write_by}
use Rattle.dms_sign.proofs.Assigned.{fields_more}
use Rattle.dms_sign.proofs.sign.set_request.write_fields.Goals as goal

pub loop-binding-preserved : goal.loop-binding-preserved
loop-binding-preserved c =
    let done = c.loop-binding.invariant.0 in
    let b = var_bind c.in-Some.binding in (
      done ++ b ∷ [],
      append_assoc done (b ∷ []) c.next.new.self ∙ ap (λ r. done ++ r) (sym c.in-Some.ensures.steps) ∙ c.loop-binding.invariant.1,
      λ s has face. fields_more s c.args.table.now c.loop-binding.table c.write_change.new.table done b (option_map write_by c.change_of.result)
          (c.loop-binding.invariant.2 s has face) (c.change_of.ensures s has face) c.write_change.ensures,
    )
