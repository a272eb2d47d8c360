use Rattle.std.proofs.Common.{◌≡◌, ◌+◌, ◌++◌, length}
use Rattle.dms_face_picture.specs.Picture.{round_of, groups_from}
use Rattle.dms_face_picture.proofs.document.put_groups.Given as goal

abbrev pub invariant-loop-page : goal.invariant-loop-page
invariant-loop-page l = record {
  text : l.out.items ++ groups_from (length l.pages) l.round l.start l.rest ≡ l.initial.out.items ++ groups_from (length l.pages) l.round 0 l.pages;
  left : l.start + round_of l.rest ≡ l.round;
}

abbrev pub decreases-loop-page : goal.decreases-loop-page
decreases-loop-page l = length l.rest
