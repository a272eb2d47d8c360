use Rattle.std.proofs.Common.{◌≡◌, None, sym, subst, ap, ◌∙◌}
use Rattle.dms_codes.specs.declared.codes.Order.{Order}
use Rattle.dms_codes.specs.Codes.{octets_of_id}
use Rattle.dms_sign.specs.State.{SignState}
use Rattle.dms_sign.specs.Restoring.{parts_fault}
use Rattle.dms_sign.proofs.TakenUp.{parts_whole}
use Rattle.dms_sign.proofs.sign.Sign.take.Goals as goal

pub invariant_of-self : goal.invariant_of-self
invariant_of-self c =
    parts_whole c.self.inside c.args.parts c.source_of-self-inside.result c.self.invariant c.settings_are_typed.ensures c.shown_is_typed.ensures
    c.shown_is_typed-2.ensures c.reports_are_typed.ensures (subst (λ (s : SignState). parts_fault s c.args.parts ≡ None) (sym c.self.view_is) c.requires)
    (c.source_of-self-inside.ensures ∙ ap (λ (o : Order). octets_of_id o c.args.parts.shown.source) c.order.ensures)
