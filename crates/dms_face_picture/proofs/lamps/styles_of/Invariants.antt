use Rattle.std.proofs.Common.{◌≡◌, fold, []}
use Rattle.std.specs.List.{range_with_len}
use Rattle.dms_face_picture.specs.Lamps.{with_row}
use Rattle.dms_face_picture.proofs.lamps.styles_of.Given as goal

abbrev pub invariant-loop-y : goal.invariant-loop-y
invariant-loop-y l = l.styles.items ≡ fold (with_row l.page) [] (range_with_len 0 l.y)
