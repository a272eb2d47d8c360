use Rattle.std.proofs.Common.{sym, ap, ◌∙◌}
use Rattle.dms_wire_ber.specs.ObjectIdentifier.{name_octets}
use Rattle.dms_mib_instances.specs.NameReading.{octets_below}
use Rattle.dms_mib_instances.proofs.Following.{before_dms, past_dms}
use Rattle.dms_mib_instances.proofs.SameOctets.{dms_octets}
use Rattle.dms_mib_instances.proofs.counts.Counts.next.Goals as goal

pub returns-then-comes_before_dms : goal.returns-then-comes_before_dms
returns-then-comes_before_dms c = λ table has.
    c.first.ensures table has
    ∙ before_dms table c.args.self.now has c.args.name.now
    (λ rest e. c.in-None.ensures.none (octets_below rest) (c.content.ensures ∙ ap name_octets e ∙ dms_octets rest))
    (sym c.comes_before_dms.ensures ∙ c.if-comes_before_dms.true)

pub returns-else-comes_before_dms : goal.returns-else-comes_before_dms
returns-else-comes_before_dms c = λ table has.
    past_dms table c.args.name.now
    (λ rest e. c.in-None.ensures.none (octets_below rest) (c.content.ensures ∙ ap name_octets e ∙ dms_octets rest))
    (sym c.comes_before_dms.ensures ∙ c.if-comes_before_dms.false)
