use Rattle.std.proofs.Common.{◌≡◌, ◌∷◌, List, length, rules, sym, ap, ◌∙◌}
use Rattle.dms_wire.specs.Message.{VarBind}
use Rattle.dms_wire.proofs.Bindings.{none_left}
use Rattle.dms_wire.proofs.binding.Binds.only_name.Goals as goal

pub returns-then-is_empty-clause-some : goal.returns-then-is_empty-clause-some
returns-then-is_empty-clause-some c =
    let first = c.in_ok-only.ensures.some in
    let none : length c.in_ok-only.after.now ≡ 0 = search rules in (
      first.0,
      sym c.self.view_is
          ∙ first.1
          ∙ ap (λ (bs : List VarBind). record { name = c.in_ok-only.only; value = first.0 } ∷ bs) (none_left c.in_ok-only.after.now none),
    )
