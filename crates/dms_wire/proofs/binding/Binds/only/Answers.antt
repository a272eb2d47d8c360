use Rattle.std.proofs.Common.{◌≡◌, ◌∷◌, List, length, rules, sym, ap, ◌∙◌}
use Rattle.dms_wire.specs.Message.{VarBind}
use Rattle.dms_wire.specs.View.{var_bind}
use Rattle.dms_wire.proofs.Bindings.{none_left}
use Rattle.dms_wire.proofs.binding.Binds.only.Goals as goal

pub returns-then-is_empty-clause-some : goal.returns-then-is_empty-clause-some
returns-then-is_empty-clause-some c =
    let none : length c.in_ok-binding.after.now ≡ 0 = search rules in
    sym c.self.view_is
    ∙ c.in_ok-binding.ensures.some
    ∙ ap (λ (bs : List VarBind). var_bind c.in_ok-binding.binding ∷ bs) (none_left c.in_ok-binding.after.now none)
