use Rattle.std.proofs.Common.{◌≡◌, ◌++◌}
use Rattle.signtool_print.proofs.names.numbers_of.Given as goal

abbrev pub invariant-loop-number : goal.invariant-loop-number
invariant-loop-number l = l.numbers.items ++ l.number-iterator ≡ l.fn.name
