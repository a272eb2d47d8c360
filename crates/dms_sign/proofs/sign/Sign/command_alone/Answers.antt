use Rattle.std.proofs.Common.{sym, subst, ap, ◌∙◌}
use Rattle.dms_sign_access.specs.Access.{Write}
use Rattle.dms_sign_access.specs.ChangeView.{write_by}
use Rattle.dms_sign.specs.Requests.{commanded}
use Rattle.dms_sign.specs.SetView.{Says}
use Rattle.dms_sign.proofs.sign.Sign.command_alone.Goals as goal

pub returns-in-Activate-clause-after : goal.returns-in-Activate-clause-after
returns-in-Activate-clause-after c = λ bindings.
    c.activate_alone.ensures.after bindings
    ∙ ap (λ (w : Write). (commanded c.args.self.now c.args.self.now bindings 1 w).after) (sym (ap write_by c.in-Activate.is))

pub returns-in-Activate-clause-says : goal.returns-in-Activate-clause-says
returns-in-Activate-clause-says c = λ bindings.
    subst (λ (w : Write). Says c.activate_alone.result (commanded c.args.self.now c.args.self.now bindings 1 w)) (sym (ap write_by c.in-Activate.is))
    (c.activate_alone.ensures.says bindings)
