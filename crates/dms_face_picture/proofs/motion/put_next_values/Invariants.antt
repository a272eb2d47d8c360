use Rattle.std.proofs.Common.{◌≡◌, ◌++◌, ◌-◌, ◌≤◌}
use Rattle.std.specs.List.{flat_map, range_with_len}
use Rattle.dms_face_picture.specs.Motion.{next_value}
use Rattle.dms_face_picture.proofs.motion.put_next_values.Given as goal

abbrev pub invariant-loop-tenth : goal.invariant-loop-tenth
invariant-loop-tenth l = record {
  text : l.out.items ≡ l.initial.out.items ++ flat_map (next_value l.rhythm) (range_with_len 1 (l.tenth - 1));
  begun : 1 ≤ l.tenth;
}
