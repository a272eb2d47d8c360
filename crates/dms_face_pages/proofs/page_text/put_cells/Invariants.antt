use Rattle.std.proofs.Common.{◌≡◌, ◌++◌, flat_map}
use Rattle.std.specs.List.{range_with_len}
use Rattle.dms_face_pages.specs.Drawn.{cell_at}
use Rattle.dms_face_pages.specs.PageText.{cell_text}
use Rattle.dms_face_pages.proofs.page_text.put_cells.Given as goal

abbrev pub invariant-loop-x : goal.invariant-loop-x
invariant-loop-x l = l.text.items ≡ l.initial.text.items ++ flat_map (λ x. cell_text (cell_at l.page x l.y)) (range_with_len 0 l.x)
