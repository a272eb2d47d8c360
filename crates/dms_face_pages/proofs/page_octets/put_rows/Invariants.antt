use Rattle.std.proofs.Common.{◌≡◌, ◌++◌, flat_map}
use Rattle.std.specs.List.{range_with_len}
use Rattle.dms_face_pages.specs.PageOctets.{row_octets}
use Rattle.dms_face_pages.proofs.page_octets.put_rows.Given as goal

abbrev pub invariant-loop-y : goal.invariant-loop-y
invariant-loop-y l = l.octets.items ≡ l.initial.octets.items ++ flat_map (row_octets l.layer l.page) (range_with_len 0 l.y)
