use Rattle.std.proofs.Common.{◌≡◌, ◌++◌}
use Rattle.std.specs.List.{flat_map, range_with_len}
use Rattle.dms_face_picture.specs.Lamps.{lamps_of_row}
use Rattle.dms_face_picture.proofs.lamps.put_lamps.Given as goal

abbrev pub invariant-loop-y : goal.invariant-loop-y
invariant-loop-y l = l.out.items ≡ l.initial.out.items ++ flat_map (lamps_of_row l.page l.style) (range_with_len 0 l.y)
