use Rattle.std.proofs.Common.{map}
use Rattle.dms_face.specs.Room.{character_block}
use Rattle.dms_face.specs.Totals.{Sums}
use Rattle.dms_face_pages.proofs.PlacingLaws.{among}
use Rattle.dms_face_rows.proofs.drawing.characters_extent.Given as goal

abbrev pub invariant-loop-character : goal.invariant-loop-character
invariant-loop-character l = Sums l.run (map character_block (among character_block l.place l.character-index l.characters))
