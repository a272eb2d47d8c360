use Rattle.std.proofs.Common.{◌≡◌, ◌+◌, ◌==◌, ℕ, length}
use Rattle.std.specs.List.{position_from}
use Rattle.dms_text.proofs.parts.newline_after.Given as goal

abbrev pub invariant-loop-left : goal.invariant-loop-left
invariant-loop-left l = record {
  same : position_from (λ (octet : ℕ). octet == 10) l.before l.text ≡ position_from (λ (octet : ℕ). octet == 10) l.index l.left;
  all : l.index + length l.left ≡ l.before + length l.text;
}

abbrev pub decreases-loop-left : goal.decreases-loop-left
decreases-loop-left l = length l.left
