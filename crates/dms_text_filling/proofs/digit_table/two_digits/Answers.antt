use Rattle.std.proofs.Common.{arith}
use Rattle.dms_text_filling.proofs.Pairs.{first_at, second_at}
use Rattle.dms_text_filling.proofs.digit_table.two_digits.Goals as goal

pub returns-clause-first : goal.returns-clause-first
returns-clause-first c = first_at c.args.octet c.from.result (omega arith) c.from.ensures

pub returns-clause-second : goal.returns-clause-second
returns-clause-second c = second_at c.args.octet c.from.result (omega arith) c.from.ensures
