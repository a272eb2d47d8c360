use Rattle.std.proofs.Common.{◌∙◌, sym}
use Rattle.dms_text.proofs.DigitPairs.{spelled, not_spelled}
use Rattle.dms_text.proofs.digit_pairs.unless_at_fault.Goals as goal

pub returns-then-are_pairs-clause-memory : goal.returns-then-are_pairs-clause-memory
returns-then-are_pairs-clause-memory c = spelled c.args.word.now (sym c.are_pairs.ensures ∙ c.if-are_pairs.true)

pub returns-else-are_pairs-clause-none : goal.returns-else-are_pairs-clause-none
returns-else-are_pairs-clause-none c = not_spelled c.args.word.now (sym c.are_pairs.ensures ∙ c.if-are_pairs.false)
