use Rattle.std.proofs.Common.{drop}
use Rattle.signtool_print.proofs.Separators.{IsRead}
use Rattle.signtool_print.proofs.spaced.without_separators.Given as goal

abbrev pub invariant-loop-index : goal.invariant-loop-index
invariant-loop-index l = IsRead l.word l.digits.items (drop l.index l.word)
