use Rattle.std.proofs.Common.{length}
use Rattle.dms_text_filling.proofs.Digits.{IsPut}
use Rattle.dms_text_filling.proofs.filling.put_pairs.Given as goal

abbrev pub invariant-eights : goal.invariant-eights
invariant-eights l = IsPut l.octets l.rest l.place l.initial.buffer l.end l.buffer

abbrev pub decreases-eights : goal.decreases-eights
decreases-eights l = length l.rest

abbrev pub invariant-last : goal.invariant-last
invariant-last l = IsPut l.octets l.rest l.place l.fn.buffer l.end l.buffer

abbrev pub decreases-last : goal.decreases-last
decreases-last l = length l.rest
