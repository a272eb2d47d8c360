use Rattle.std.proofs.Common.{sym, subst}
use Rattle.dms_wire_ber.specs.ObjectIdentifier.{IsName}
use Rattle.dms_wire_ber.specs.NameReading.{numbers_of}
use Rattle.dms_device.proofs.Faultless.{name_of_numbers, numbers_again}
use Rattle.dms_device.proofs.held.content_of.Goals as goal

pub returns-clause-spelled : goal.returns-clause-spelled
returns-clause-spelled c =
    subst (λ octets. IsName (numbers_of octets) octets) (sym c.content.ensures) (name_of_numbers c.args.name.now c.numbers.ensures.in_limits)

pub returns-clause-numbers : goal.returns-clause-numbers
returns-clause-numbers c = rw c.content.ensures (numbers_again c.args.name.now c.numbers.ensures.in_limits)
