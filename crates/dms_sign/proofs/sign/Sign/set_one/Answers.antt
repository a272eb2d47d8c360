use Rattle.std.proofs.Common.{◌≡◌, true, false, None, refl, sym, subst, ap, ◌∙◌}
use Rattle.dms_wire.specs.View.{var_bind}
use Rattle.dms_wire.specs.declared.error_status.ErrorStatus.TheVariants.{NoError}
use Rattle.dms_sign_access.specs.Access.{is_command}
use Rattle.dms_sign_access.specs.ChangeView.{write_by}
use Rattle.dms_sign.specs.Requests.{Answer}
use Rattle.dms_sign.specs.SetView.{Says}
use Rattle.dms_sign.proofs.Alone.{one_in_range, one_commanded, one_assigned, one_refused}
use Rattle.dms_sign.proofs.sign.Sign.set_one.Goals as goal

pub returns-in-Err-clause-after : goal.returns-in-Err-clause-after
returns-in-Err-clause-after c =
    sym (ap (λ (a : Answer). a.after)
    (one_refused c.args.self.now c.args.may_write c.args.binds.now (var_bind c.args.binding.now) c.in-Err.status c.requires.only c.in-Err.ensures.refusal))

pub returns-in-Err-clause-says : goal.returns-in-Err-clause-says
returns-in-Err-clause-says c =
    subst (λ (a : Answer). (a.status ≡ c.in-Err.status) × (a.index ≡ 1) × (a.accepted ≡ None))
    (sym (one_refused c.args.self.now c.args.may_write c.args.binds.now (var_bind c.args.binding.now) c.in-Err.status c.requires.only c.in-Err.ensures.refusal))
    (refl, refl, refl)

pub command_alone-requires : goal.command_alone-requires
command_alone-requires c =
    let is : is_command (write_by c.in-Ok.change) ≡ true = sym c.is_command.ensures ∙ c.if-is_command.true in
    one_in_range c.args.self.now c.args.binds.now (var_bind c.args.binding.now) (write_by c.in-Ok.change) c.requires.limits c.requires.only
    c.in-Ok.ensures.change is

pub returns-then-is_command : goal.returns-then-is_command
returns-then-is_command c =
    let is : is_command (write_by c.in-Ok.change) ≡ true = sym c.is_command.ensures ∙ c.if-is_command.true in
    let one = one_commanded c.args.self.now c.args.may_write c.args.binds.now (var_bind c.args.binding.now) (write_by c.in-Ok.change) c.requires.only
    c.in-Ok.ensures.none c.in-Ok.ensures.change is in
    record {
      after = c.command_alone.ensures.after c.args.binds.now ∙ ap (λ (a : Answer). a.after) one;
      says = subst (Says c.command_alone.result) one (c.command_alone.ensures.says c.args.binds.now);
    }

pub returns-else-is_command : goal.returns-else-is_command
returns-else-is_command c =
    let is : is_command (write_by c.in-Ok.change) ≡ false = sym c.is_command.ensures ∙ c.if-is_command.false in
    let one = one_assigned c.args.self.now c.args.may_write c.args.binds.now (var_bind c.args.binding.now) (write_by c.in-Ok.change) c.requires.only
    c.in-Ok.ensures.none c.in-Ok.ensures.change is in
    record {
      after = c.assign_one.ensures ∙ ap (λ (a : Answer). a.after) one;
      says = subst (λ (a : Answer). (a.status ≡ NoError) × (a.index ≡ 0) × (a.accepted ≡ None)) one (refl, refl, refl);
    }
