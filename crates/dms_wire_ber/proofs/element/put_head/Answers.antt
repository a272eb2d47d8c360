use Rattle.std.proofs.Common.{arith, rules}
use Rattle.dms_wire_ber.proofs.Shortest.{short_length_one, short_length_two}
use Rattle.dms_wire_ber.proofs.element.put_head.Goals as goal

pub returns-then-size-lt256 : goal.returns-then-size-lt256
returns-then-size-lt256 c = rw (short_length_one c.args.size (omega arith) (omega arith)) (search rules)

pub returns-else-size-lt256 : goal.returns-else-size-lt256
returns-else-size-lt256 c = rw (short_length_two c.args.size (omega arith) (omega arith)) (search rules)
