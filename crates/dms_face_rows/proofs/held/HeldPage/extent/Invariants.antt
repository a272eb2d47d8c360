use Rattle.std.proofs.Common.{map}
use Rattle.dms_face.specs.Room.{line_block}
use Rattle.dms_face.specs.Totals.{Sums}
use Rattle.dms_face_pages.proofs.PlacingLaws.{among}
use Rattle.dms_face_rows.specs.Held.{lines_of}
use Rattle.dms_face_rows.proofs.held.HeldPage.extent.Given as goal

abbrev pub invariant-loop-line : goal.invariant-loop-line
invariant-loop-line l = Sums l.run (map line_block (among line_block l.part l.line-index (lines_of l.self)))
