use Rattle.std.proofs.Common.{sym, ap, subst, ◌∙◌}
use Rattle.dms_codes.specs.declared.codes.Order.{Order}
use Rattle.dms_codes.specs.Codes.{octets_of_id}
use Rattle.dms_codes.specs.Mode.{mode_number}
use Rattle.dms_table.specs.Activation.{ShownModel, shown_by}
use Rattle.dms_sign.specs.InRange.{IsShownInRange}
use Rattle.dms_sign.specs.State.{SignState}
use Rattle.dms_sign.proofs.Wholes.{shown_whole}
use Rattle.dms_sign.proofs.sign.Sign.show_named.Goals as goal

pub invariant_of-self : goal.invariant_of-self
invariant_of-self c =
    shown_whole c.self.inside c.set_mode.new.self c.source_of-self-inside.result c.self.invariant
    (subst IsShownInRange (sym (c.set_mode.ensures ∙ ap (λ (x : ShownModel). record x { mode = mode_number c.args.mode }) c.put_up.ensures))
    (subst (λ (s : SignState). IsShownInRange (record (shown_by s.settings.defaults s.table s.shown c.args.code.now) { mode = mode_number c.args.mode })) (sym c.self.view_is) c.requires))
    (c.source_of-self-inside.ensures ∙ ap (λ (o : Order). octets_of_id o c.set_mode.new.self.source) c.order.ensures)
