use Rattle.std.proofs.Common.{◌≡◌, ◌++◌}
use Rattle.std.specs.List.{flat_map, range_with_len}
use Rattle.dms_face_picture.specs.Lamps.{whole_row}
use Rattle.dms_face_picture.proofs.lamps.put_whole_rows.Given as goal

abbrev pub invariant-loop-y : goal.invariant-loop-y
invariant-loop-y l = l.out.items ≡ l.initial.out.items ++ flat_map (whole_row l.width) (range_with_len 0 l.y)
