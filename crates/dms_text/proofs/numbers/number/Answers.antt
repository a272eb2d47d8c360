use Rattle.std.proofs.Common.{arith}
use Rattle.dms_text.proofs.DigitsRead.{number_fits, number_step, number_below}
use Rattle.dms_text.proofs.numbers.number.Goals as goal

pub overflow_mul-number : goal.overflow_mul-number
overflow_mul-number c = omega (arith, number_fits _ _ _ c.args.most 0 _ c.loop-octet.invariant (omega arith) (omega arith) (omega arith) (omega arith))

pub overflow_add-number : goal.overflow_add-number
overflow_add-number c = omega (arith, number_fits _ _ _ c.args.most c.in_ok-digit.digit _ c.loop-octet.invariant (omega arith) (omega (arith, c.in_ok-digit.ensures.value)) (omega arith) (omega arith))

pub loop-octet-preserved : goal.loop-octet-preserved
loop-octet-preserved c = number_step _ _ _ _ _ _ c.loop-octet.invariant c.loop-octet-test.true (omega arith) c.from.ensures c.in_ok-digit.ensures.value.0 c.in_ok-digit.ensures.value.1

pub returns-clause-below : goal.returns-clause-below
returns-clause-below c = number_below _ _ _ c.args.most _ c.loop-octet.invariant (omega arith)
