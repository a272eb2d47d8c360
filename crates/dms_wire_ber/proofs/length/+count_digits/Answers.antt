use Rattle.std.proofs.Common.{arith}
use Rattle.dms_wire_ber.proofs.Shortest.{length-digits_more, length-digits_le}
use Rattle.dms_wire_ber.proofs.length.+count_digits.Goals as goal

pub returns-else-number-lt256-clause-small : goal.returns-else-number-lt256-clause-small
returns-else-number-lt256-clause-small t c = omega (arith, c.count_digits.ensures.exact, length-digits_more c.args.number (omega arith), length-digits_le c.args.number (omega arith))
