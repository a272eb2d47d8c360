use Rattle.std.proofs.Common.{◌∙◌, sym}
use Rattle.dms_text_exact.proofs.PairLaws.{small_some}
use Rattle.dms_text_exact.proofs.digits.unless_at_fault.Goals as goal

pub returns-then-are_small_digits-clause-memory : goal.returns-then-are_small_digits-clause-memory
returns-then-are_small_digits-clause-memory c =
    small_some c.args.word.now c.requires.some c.requires.even (sym c.are_small_digits.ensures ∙ c.if-are_small_digits.true)
