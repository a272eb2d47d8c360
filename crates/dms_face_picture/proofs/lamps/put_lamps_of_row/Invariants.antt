use Rattle.std.proofs.Common.{◌≡◌, ◌++◌}
use Rattle.std.specs.List.{flat_map, range_with_len}
use Rattle.dms_face_picture.specs.Lamps.{lamp}
use Rattle.dms_face_picture.proofs.lamps.put_lamps_of_row.Given as goal

abbrev pub invariant-loop-x : goal.invariant-loop-x
invariant-loop-x l = l.out.items ≡ l.initial.out.items ++ flat_map (lamp l.page l.style l.y) (range_with_len 0 l.x)
