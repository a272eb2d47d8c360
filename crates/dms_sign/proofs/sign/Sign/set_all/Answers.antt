use Rattle.std.proofs.Common.{◌≡◌, None, map, refl, sym, subst, ap, ◌∙◌, arith}
use Rattle.std.proofs.lemmas.Option.{IfSome_then}
use Rattle.std.specs.Prelude.{option_map}
use Rattle.dms_sign.specs.Requests.{Answer}
use Rattle.dms_sign_access.specs.ChangeView.{write_by}
use Rattle.dms_sign.specs.SetView.{refusal_of, Says}
use Rattle.dms_sign.proofs.Assigned.{command_in_range, set_commanded, set_refused}
use Rattle.dms_sign.proofs.sign.Sign.set_all.Goals as goal

pub command-requires-clause-range : goal.command-requires-clause-range
command-requires-clause-range c = grind (arith, command_in_range)

pub returns-in-Ok-clause-after : goal.returns-in-Ok-clause-after
returns-in-Ok-clause-after c =
    c.command.ensures.after
    ∙ ap (λ (a : Answer). a.after)
    (set_commanded c.args.self.now c.args.may_write c.args.binds.now c.in-Ok.judged.index (option_map write_by c.in-Ok.judged.command)
    c.in-Ok.ensures.none c.in-Ok.ensures.command c.in-Ok.ensures.index)

pub returns-in-Ok-clause-says : goal.returns-in-Ok-clause-says
returns-in-Ok-clause-says c =
    subst (Says c.command.result)
    (set_commanded c.args.self.now c.args.may_write c.args.binds.now c.in-Ok.judged.index (option_map write_by c.in-Ok.judged.command)
    c.in-Ok.ensures.none c.in-Ok.ensures.command c.in-Ok.ensures.index) c.command.ensures.says

pub returns-in-Err-clause-after : goal.returns-in-Err-clause-after
returns-in-Err-clause-after c =
    sym (ap (λ (a : Answer). a.after) (set_refused c.args.self.now c.args.may_write c.args.binds.now (refusal_of c.in-Err.refusal) c.in-Err.ensures.first))

pub returns-in-Err-clause-says : goal.returns-in-Err-clause-says
returns-in-Err-clause-says c =
    subst (λ (a : Answer). (a.status ≡ c.in-Err.refusal.status) × (a.index ≡ c.in-Err.refusal.index) × (a.accepted ≡ None))
    (sym (set_refused c.args.self.now c.args.may_write c.args.binds.now (refusal_of c.in-Err.refusal) c.in-Err.ensures.first)) (refl, refl, refl)

pub command-requires-clause-changes : goal.command-requires-clause-changes
command-requires-clause-changes c =
    IfSome_then c.changes_of.result c.changes_of.ensures (λ changes are. ap (map write_by) are.1 ∙ c.in-Ok.ensures.kept are.0)
