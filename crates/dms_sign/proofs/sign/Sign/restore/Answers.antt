use Rattle.std.proofs.Common.{ap, ◌∙◌}
use Rattle.dms_codes.specs.declared.codes.Order.{Order}
use Rattle.dms_codes.specs.Codes.{octets_of_id}
use Rattle.dms_sign.proofs.Wholes.{restored_whole}
use Rattle.dms_sign.proofs.sign.Sign.restore.Goals as goal

pub invariant_of-self : goal.invariant_of-self
invariant_of-self c =
    restored_whole c.self.inside c.after_power.new.self c.again-shown.result c.source_of-self-inside.result c.self.invariant c.after_power.ensures
    c.again-shown.ensures (c.source_of-self-inside.ensures ∙ ap (λ (o : Order). octets_of_id o c.again-shown.result.source) c.order.ensures)
