use Rattle.std.proofs.Common.{◌≡◌, ◌+◌, ◌==◌, ℕ, length}
use Rattle.std.specs.List.{position_from}
use Rattle.dms_text.specs.Words.{index_of}
use Rattle.dms_text.proofs.parts.newline_in.Given as goal

abbrev pub invariant-loop-left : goal.invariant-loop-left
invariant-loop-left l = record {
  same : index_of 10 l.text ≡ position_from (λ (octet : ℕ). octet == 10) l.before l.left;
  all : l.before + length l.left ≡ length l.text;
}

abbrev pub decreases-loop-left : goal.decreases-loop-left
decreases-loop-left l = length l.left
