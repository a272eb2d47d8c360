use Rattle.std.proofs.Common.{◌≡◌, subst, sym, ap, ◌∙◌}
use Rattle.dms_codes.specs.declared.codes.Order.{Order}
use Rattle.dms_codes.specs.Codes.{id_of, octets_of_activation}
use Rattle.dms_codes.specs.Mode.{mode_number}
use Rattle.dms_table.specs.Activation.{shown_by}
use Rattle.dms_sign.specs.InRange.{IsShownInRange}
use Rattle.dms_sign.specs.State.{SignState}
use Rattle.dms_sign.specs.OwnCodes.{showing, with_refused_code, put_up_code}
use Rattle.dms_sign.specs.SignView.{state_of}
use Rattle.dms_sign.proofs.InRangeShown.{mode_in_range}
use Rattle.dms_sign.proofs.Wholes.{put_up_shown, put_up_refused, own_accepted, own_refused}
use Rattle.dms_sign.proofs.sign.Sign.put_up.Goals as goal

pub show_named-requires : goal.show_named-requires
show_named-requires c =
    subst (λ (s : SignState). IsShownInRange (record (shown_by s.settings.defaults s.table s.shown c.own_activation-code.result) { mode = mode_number c.args.mode })) c.self.view_is
    (put_up_shown _ (state_of c.self.inside) c.args.octets c.of_octets-id.result c.own_activation-code.result (mode_number c.args.mode)
    c.self.invariant.kept.in_range c.requires (c.of_octets-id.ensures.value ∙ ap (λ (o : Order). id_of o c.args.octets) c.order.ensures)
    c.own_activation-code.ensures (mode_in_range c.args.mode) (sym c.in-Ok.is ∙ c.judge.ensures))

pub refuse_code-requires-clause-cause : goal.refuse_code-requires-clause-cause
refuse_code-requires-clause-cause c =
    put_up_refused _ (state_of c.self.inside) c.args.octets c.of_octets-id.result c.own_activation-code.result c.in-Err.cause
    c.self.invariant.kept.in_range c.requires (c.of_octets-id.ensures.value ∙ ap (λ (o : Order). id_of o c.args.octets) c.order.ensures)
    c.own_activation-code.ensures (sym c.in-Err.is ∙ c.judge.ensures)

pub returns-in-Ok : goal.returns-in-Ok
returns-in-Ok c =
    let code = c.own_activation-code.result in
    c.show_named.ensures
    ∙ subst (λ (s : SignState). showing s (record (shown_by s.settings.defaults s.table s.shown code) { mode = mode_number c.args.mode }) ≡ put_up_code s c.args.octets (mode_number c.args.mode))
    c.self.view_is
    (own_accepted _ (state_of c.self.inside) c.args.octets c.of_octets-id.result code (mode_number c.args.mode)
    (c.of_octets-id.ensures.value ∙ ap (λ (o : Order). id_of o c.args.octets) c.order.ensures) c.own_activation-code.ensures c.if-id-eq-CURRENT_BUFFER.false
    (sym c.in-Ok.is ∙ c.judge.ensures))

pub returns-in-Err : goal.returns-in-Err
returns-in-Err c =
    let code = c.own_activation-code.result in
    let told = c.to_bytes-octets.result in
    c.refuse_code.ensures ∙ ap (λ (n : SignState). with_refused_code n c.in-Err.cause told) c.show.ensures
    ∙ subst (λ (s : SignState). with_refused_code (showing s c.blank.result) c.in-Err.cause told ≡ put_up_code s c.args.octets (mode_number c.args.mode)) c.self.view_is
    (own_refused _ (state_of c.self.inside) c.args.octets c.of_octets-id.result code (mode_number c.args.mode) c.in-Err.cause c.blank.result told
    (c.of_octets-id.ensures.value ∙ ap (λ (o : Order). id_of o c.args.octets) c.order.ensures) c.own_activation-code.ensures c.if-id-eq-CURRENT_BUFFER.false
    (sym c.in-Err.is ∙ c.judge.ensures) c.blank.ensures
    (c.to_bytes-octets.ensures ∙ ap (λ (o : Order). octets_of_activation o code) c.order-in-Err.ensures))
