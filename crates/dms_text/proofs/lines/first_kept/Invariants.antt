use Rattle.std.proofs.Common.{◌≡◌, ◌+◌, ◌<◌, ◌^◌, length}
use Rattle.std.specs.Str.Lines.{lines}
use Rattle.dms_text.specs.Lines.{numbered}
use Rattle.dms_text.proofs.lines.first_kept.Given as goal

abbrev pub invariant-loop-left : goal.invariant-loop-left
invariant-loop-left l = record {
  same : numbered l.next (lines l.left) ≡ numbered l.number (lines l.text);
  count : l.next + length (lines l.left) ≡ l.number + length (lines l.text);
  within : l.next + length l.left < 2 ^ 64;
}

abbrev pub decreases-loop-left : goal.decreases-loop-left
decreases-loop-left l = length l.left
