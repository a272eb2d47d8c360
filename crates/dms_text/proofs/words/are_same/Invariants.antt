use Rattle.std.proofs.Common.{◌≡◌, length}
use Rattle.dms_text.specs.Reading.{same_octets}
use Rattle.dms_text.proofs.words.are_same.Given as goal

abbrev pub invariant-loop-left : goal.invariant-loop-left
invariant-loop-left l = same_octets l.word l.other ≡ same_octets l.left l.wanted

abbrev pub decreases-loop-left : goal.decreases-loop-left
decreases-loop-left l = length l.left
