use Rattle.std.proofs.Common.{nat_eq, ap₂, ◌∙◌}
use Rattle.std.specs.Cmp.Lexicographic.{pointwise}
use Rattle.dms_wire_ber.proofs.Named.{same_name}
use Rattle.dms_wire_ber.proofs.Names.{name_only}
use Rattle.dms_wire_ber.specs.NameReading.{numbers_of}
use Rattle.dms_device.proofs.names.is_same.Goals as goal

pub returns : goal.returns
returns c =
    let one = c.content_of.result.now in
    let other = c.content_of-2.result.now in
    c.are_same.ensures
    ∙ same_name one other (name_only (numbers_of one) one c.content_of.ensures.spelled).0 (name_only (numbers_of other) other c.content_of-2.ensures.spelled).0
    ∙ ap₂ (pointwise nat_eq) c.content_of.ensures.numbers c.content_of-2.ensures.numbers
