use Rattle.std.proofs.Common.{◌≡◌, ◌++◌, flat_map}
use Rattle.std.specs.List.{range_with_len}
use Rattle.dms_face_pages.specs.PageText.{row_text}
use Rattle.dms_face_pages.proofs.page_text.put_rows.Given as goal

abbrev pub invariant-loop-y : goal.invariant-loop-y
invariant-loop-y l = l.text.items ≡ l.initial.text.items ++ flat_map (row_text l.page) (range_with_len 0 l.y)
