use Rattle.std.proofs.Common.{◌≡◌, Some, None, Ok, refl, sym, subst, ap, ◌∙◌}
use Rattle.dms_wire.specs.declared.error_status.ErrorStatus.TheVariants.{GenErr}
use Rattle.dms_codes.specs.declared.codes.Order.{Order}
use Rattle.dms_codes.specs.Codes.{activation_of}
use Rattle.dms_sign.specs.State.{SignState}
use Rattle.dms_sign.specs.Requests.{Answer, activated}
use Rattle.dms_table.specs.Activation.{shown_by}
use Rattle.dms_sign.specs.InRange.{IsShownInRange}
use Rattle.dms_sign.specs.SetView.{Says}
use Rattle.dms_sign.specs.SignView.{state_of}
use Rattle.dms_sign.proofs.Assigned.{fit_new}
use Rattle.dms_sign.specs.SetView.{AreLeft}
use Rattle.dms_sign.proofs.Activations.{accepted_in_range, accepted_answer, refused_in_range, refused_answer}
use Rattle.dms_sign.proofs.sign.Sign.activate.Goals as goal

pub judge-requires-clause-fit : goal.judge-requires-clause-fit
judge-requires-clause-fit c =
    fit_new (state_of c.self.inside) c.args.binds.now c.args.judged.now.settings c.self.invariant.kept.fit
    (subst (AreLeft c.args.judged.now.settings c.args.binds.now) (sym c.self.view_is) c.requires.settings)

pub accept-requires-clause-shown : goal.accept-requires-clause-shown
accept-requires-clause-shown c =
    let code = c.of_octets-code in
    subst (λ (n : SignState). IsShownInRange (shown_by n.settings.defaults n.table n.shown code.result)) (sym c.assign.ensures)
    (accepted_in_range _ (state_of c.self.inside) c.args.self.now c.args.binds.now c.args.judged.now.settings c.args.octets.now code.result c.self.view_is
    c.requires.settings (code.ensures.value ∙ ap (λ (o : Order). activation_of o c.args.octets.now) c.order.ensures) (sym c.in-Ok.is ∙ c.judge.ensures)
    c.self.invariant.kept.in_range c.requires.limits c.requires.octets)

pub refuse_code-requires-clause-cause : goal.refuse_code-requires-clause-cause
refuse_code-requires-clause-cause c =
    let code = c.of_octets-code in
    refused_in_range _ (state_of c.self.inside) c.args.self.now c.args.binds.now c.args.judged.now.settings c.args.octets.now code.result c.in-Err.cause
    c.self.view_is c.requires.settings (code.ensures.value ∙ ap (λ (o : Order). activation_of o c.args.octets.now) c.order.ensures)
    (sym c.in-Err.is ∙ c.judge.ensures) c.self.invariant.kept.in_range c.requires.limits c.requires.octets

pub returns-in-Ok-clause-after : goal.returns-in-Ok-clause-after
returns-in-Ok-clause-after c =
    let code = c.of_octets-code in
    let found =
    accepted_answer _ (state_of c.self.inside) c.args.self.now c.args.binds.now c.args.judged.now.settings c.args.octets.now code.result c.self.view_is
    c.requires.settings (code.ensures.value ∙ ap (λ (o : Order). activation_of o c.args.octets.now) c.order.ensures) (sym c.in-Ok.is ∙ c.judge.ensures)
    c.args.judged.now.index
    in
    c.accept.ensures ∙ ap (λ (n : SignState). activated n c.args.octets.now (shown_by n.settings.defaults n.table n.shown code.result)) c.assign.ensures
    ∙ sym (ap (λ (a : Answer). a.after) found)

pub returns-in-Ok-clause-says : goal.returns-in-Ok-clause-says
returns-in-Ok-clause-says c =
    let code = c.of_octets-code in
    let is = code.ensures.value ∙ ap (λ (o : Order). activation_of o c.args.octets.now) c.order.ensures in
    let now : code.result ≡ activation_of c.args.self.now.table.order c.args.octets.now =
    is ∙ ap (λ (s : SignState). activation_of s.table.order c.args.octets.now) c.self.view_is
    in
    subst (Says (Ok (Some code.result)))
    (sym (accepted_answer _ (state_of c.self.inside) c.args.self.now c.args.binds.now c.args.judged.now.settings c.args.octets.now code.result c.self.view_is
    c.requires.settings is (sym c.in-Ok.is ∙ c.judge.ensures) c.args.judged.now.index))
    (refl, refl, ap Some (sym now))

pub returns-in-Err-clause-after : goal.returns-in-Err-clause-after
returns-in-Err-clause-after c =
    let code = c.of_octets-code in
    let found =
    refused_answer _ (state_of c.self.inside) c.args.self.now c.args.binds.now c.args.judged.now.settings c.args.octets.now code.result c.in-Err.cause
    c.self.view_is c.requires.settings (code.ensures.value ∙ ap (λ (o : Order). activation_of o c.args.octets.now) c.order.ensures)
    (sym c.in-Err.is ∙ c.judge.ensures) c.args.judged.now.index
    in
    c.refuse_code.ensures ∙ sym (ap (λ (a : Answer). a.after) found)

pub returns-in-Err-clause-says : goal.returns-in-Err-clause-says
returns-in-Err-clause-says c =
    let code = c.of_octets-code in
    subst (λ (a : Answer). (a.status ≡ GenErr) × (a.index ≡ c.args.judged.now.index) × (a.accepted ≡ None))
    (sym (refused_answer _ (state_of c.self.inside) c.args.self.now c.args.binds.now c.args.judged.now.settings c.args.octets.now code.result c.in-Err.cause
    c.self.view_is c.requires.settings (code.ensures.value ∙ ap (λ (o : Order). activation_of o c.args.octets.now) c.order.ensures)
    (sym c.in-Err.is ∙ c.judge.ensures) c.args.judged.now.index))
    (refl, refl, refl)
