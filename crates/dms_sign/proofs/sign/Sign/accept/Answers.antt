use Rattle.std.proofs.Common.{sym, ap, subst, ◌∙◌}
use Rattle.dms_codes.specs.declared.codes.Order.{Order}
use Rattle.dms_codes.specs.Codes.{octets_of_id}
use Rattle.dms_table.specs.Activation.{shown_by}
use Rattle.dms_sign.specs.InRange.{IsShownInRange}
use Rattle.dms_sign.specs.State.{SignState}
use Rattle.dms_sign.proofs.Assigned.{accepted_whole}
use Rattle.dms_sign.proofs.sign.Sign.accept.Goals as goal

pub invariant_of-self : goal.invariant_of-self
invariant_of-self c =
    accepted_whole c.self.inside c.put_up.new.shown c.source_of-self-inside.result c.args.octets c.with_accepted-self-inside.result c.self.invariant
    (subst IsShownInRange (sym c.put_up.ensures)
    (subst (λ (s : SignState). IsShownInRange (shown_by s.settings.defaults s.table s.shown c.args.code.now)) (sym c.self.view_is) c.requires.shown))
    c.requires.octets
    (c.source_of-self-inside.ensures ∙ ap (λ (o : Order). octets_of_id o c.put_up.new.shown.source) c.order.ensures)
    c.with_accepted-self-inside.ensures
