use Rattle.std.proofs.Common.{◌≡◌, Some, None, Ok, Err, refl, sym, subst, ap, ◌∙◌}
use Rattle.dms_wire.specs.declared.error_status.ErrorStatus.TheVariants.{GenErr}
use Rattle.dms_codes.specs.declared.codes.Order.{Order}
use Rattle.dms_codes.specs.Codes.{activation_of}
use Rattle.dms_sign.specs.State.{SignState}
use Rattle.dms_sign.specs.Requests.{Answer}
use Rattle.dms_sign.specs.SetView.{Says}
use Rattle.dms_sign.specs.SignView.{state_of}
use Rattle.dms_sign.proofs.Activations.{shown_alone, accepted_alone, refused_alone, alone_in_range, alone_answer}
use Rattle.dms_sign.proofs.sign.Sign.activate_alone.Goals as goal

pub judge-requires-clause-fit : goal.judge-requires-clause-fit
judge-requires-clause-fit c = c.self.invariant.kept.fit

pub accept-requires-clause-shown : goal.accept-requires-clause-shown
accept-requires-clause-shown c =
    let code = c.of_octets-code in
    let octets = c.args.octets.now in
    let is = code.ensures.value ∙ ap (λ (o : Order). activation_of o octets) c.order.ensures in
    alone_in_range (state_of c.self.inside) c.args.self.now octets (Ok (shown_alone c.args.self.now code.result)) c.self.view_is
    c.self.invariant.kept.in_range c.requires
    (accepted_alone _ (state_of c.self.inside) c.args.self.now octets code.result c.self.view_is is (sym c.in-Ok.is ∙ c.judge.ensures))

pub refuse_code-requires-clause-cause : goal.refuse_code-requires-clause-cause
refuse_code-requires-clause-cause c =
    let code = c.of_octets-code in
    let octets = c.args.octets.now in
    let is = code.ensures.value ∙ ap (λ (o : Order). activation_of o octets) c.order.ensures in
    alone_in_range (state_of c.self.inside) c.args.self.now octets (Err c.in-Err.cause) c.self.view_is c.self.invariant.kept.in_range c.requires
    (refused_alone _ (state_of c.self.inside) c.args.self.now octets code.result c.in-Err.cause c.self.view_is is (sym c.in-Err.is ∙ c.judge.ensures))

pub returns-in-Ok-clause-after : goal.returns-in-Ok-clause-after
returns-in-Ok-clause-after c = λ bindings.
    let code = c.of_octets-code in
    let octets = c.args.octets.now in
    let now = c.args.self.now in
    let is = code.ensures.value ∙ ap (λ (o : Order). activation_of o octets) c.order.ensures in
    c.accept.ensures
    ∙ ap (λ (a : Answer). a.after)
    (alone_answer now bindings octets (Ok (shown_alone now code.result))
    (accepted_alone _ (state_of c.self.inside) now octets code.result c.self.view_is is (sym c.in-Ok.is ∙ c.judge.ensures)))

pub returns-in-Ok-clause-says : goal.returns-in-Ok-clause-says
returns-in-Ok-clause-says c = λ bindings.
    let code = c.of_octets-code in
    let octets = c.args.octets.now in
    let now = c.args.self.now in
    let is = code.ensures.value ∙ ap (λ (o : Order). activation_of o octets) c.order.ensures in
    let now_is : code.result ≡ activation_of now.table.order octets = is ∙ ap (λ (s : SignState). activation_of s.table.order octets) c.self.view_is in
    subst (Says (Ok (Some code.result)))
    (alone_answer now bindings octets (Ok (shown_alone now code.result))
    (accepted_alone _ (state_of c.self.inside) now octets code.result c.self.view_is is (sym c.in-Ok.is ∙ c.judge.ensures)))
    (refl, refl, ap Some (sym now_is))

pub returns-in-Err-clause-after : goal.returns-in-Err-clause-after
returns-in-Err-clause-after c = λ bindings.
    let code = c.of_octets-code in
    let octets = c.args.octets.now in
    let now = c.args.self.now in
    let is = code.ensures.value ∙ ap (λ (o : Order). activation_of o octets) c.order.ensures in
    c.refuse_code.ensures
    ∙ ap (λ (a : Answer). a.after)
    (alone_answer now bindings octets (Err c.in-Err.cause)
    (refused_alone _ (state_of c.self.inside) now octets code.result c.in-Err.cause c.self.view_is is (sym c.in-Err.is ∙ c.judge.ensures)))

pub returns-in-Err-clause-says : goal.returns-in-Err-clause-says
returns-in-Err-clause-says c = λ bindings.
    let code = c.of_octets-code in
    let octets = c.args.octets.now in
    let now = c.args.self.now in
    let is = code.ensures.value ∙ ap (λ (o : Order). activation_of o octets) c.order.ensures in
    subst (λ (a : Answer). (a.status ≡ GenErr) × (a.index ≡ 1) × (a.accepted ≡ None))
    (alone_answer now bindings octets (Err c.in-Err.cause)
    (refused_alone _ (state_of c.self.inside) now octets code.result c.in-Err.cause c.self.view_is is (sym c.in-Err.is ∙ c.judge.ensures)))
    (refl, refl, refl)
