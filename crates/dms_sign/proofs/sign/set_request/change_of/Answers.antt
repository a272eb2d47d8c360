use Rattle.std.proofs.Common.{◌≡◌, false, sym, ap, ◌∙◌, arith}
use Rattle.std.specs.Prelude.{option_map}
use Rattle.dms_wire.specs.View.{var_bind}
use Rattle.dms_sign_access.specs.Access.{is_settable}
use Rattle.dms_sign_access.specs.ChangeView.{write_by}
use Rattle.dms_sign.proofs.Assigned.{settable_there, settable_not, settable_none}
use Rattle.dms_sign.proofs.sign.set_request.change_of.Goals as goal

pub returns-in_err-instance : goal.returns-in_err-instance
returns-in_err-instance c = λ s has face. ap (option_map write_by) c.from_residual.ensures ∙ settable_none s (var_bind c.args.binding.now) (c.in_err-instance.ensures s.table has)

pub returns-then-is_settable : goal.returns-then-is_settable
returns-then-is_settable c = grind (arith, settable_there)

pub returns-else-is_settable : goal.returns-else-is_settable
returns-else-is_settable c = λ s has face.
    let is : is_settable c.in_ok-instance.instance ≡ false = sym c.is_settable.ensures ∙ c.if-is_settable.false in
    settable_not s (var_bind c.args.binding.now) c.in_ok-instance.instance (c.in_ok-instance.ensures s.table has) is
