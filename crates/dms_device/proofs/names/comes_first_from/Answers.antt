use Rattle.std.proofs.Common.{ap, ap₂, ◌∙◌}
use Rattle.std.specs.Ordering.{is_lt}
use Rattle.dms_wire_ber.specs.NameReading.{numbers_of}
use Rattle.dms_wire_ber.specs.NameOrder.{numbers_cmp}
use Rattle.dms_device.proofs.names.comes_first_from.Goals as goal

pub returns-in-None : goal.returns-in-None
returns-in-None c =
    c.is_lt.ensures
    ∙ ap is_lt
    (c.oid_cmp.ensures
    ∙ ap₂ numbers_cmp (c.known.ensures (numbers_of c.args.first.now) c.requires.first) (c.known-in-None.ensures (numbers_of c.args.second.now) c.requires.second))
