use Rattle.std.proofs.Common.{◌∙◌, arith}
use Rattle.dms_text.proofs.ValueTable.{value_at, most_at}
use Rattle.dms_text.proofs.digit_values.digit_value.Goals as goal

pub returns-clause-value : goal.returns-clause-value
returns-clause-value c = c.from-2.ensures ∙ value_at c.args.octet c.from.result (omega arith) c.from.ensures

pub returns-clause-most : goal.returns-clause-most
returns-clause-most c = omega (arith, c.from-2.ensures, most_at c.args.octet c.from.result (omega arith) c.from.ensures)
