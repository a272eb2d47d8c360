use Rattle.std.proofs.Common.{◌≡◌, ◌≤◌, ◌*◌, take}
use Rattle.dms_face_picture.specs.Picture.{round_of}
use Rattle.dms_face_picture.proofs.document.round_of.Given as goal

abbrev pub invariant-loop-page : goal.invariant-loop-page
invariant-loop-page l = record {
  time : l.round ≡ round_of (take l.page-index l.pages);
  short : l.round ≤ 510 * l.page-index;
}
