use Rattle.std.proofs.Common.{◌≡◌, length}
use Rattle.std.specs.List.{list_any}
use Rattle.dms_text.specs.Words.{parts_of}
use Rattle.dms_text_exact.specs.ExactWords.{has_needless_zero}
use Rattle.dms_text_exact.proofs.numbers.has_zero_in_parts.Given as goal

-- no part before what is left has a needless zero
abbrev pub invariant-loop-part : goal.invariant-loop-part
invariant-loop-part l = list_any has_needless_zero (parts_of 46 l.word) ≡ list_any has_needless_zero (parts_of 46 l.rest)

abbrev pub decreases-loop-part : goal.decreases-loop-part
decreases-loop-part l = length l.rest
