use Rattle.std.proofs.Common.{◌≡◌, fold}
use Rattle.std.specs.List.{range_with_len}
use Rattle.dms_face_pages.specs.Drawn.{cell_at}
use Rattle.dms_face_picture.specs.Lamps.{with_cell}
use Rattle.dms_face_picture.proofs.lamps.add_row.Given as goal

abbrev pub invariant-loop-x : goal.invariant-loop-x
invariant-loop-x l = l.styles.items ≡ fold (λ more x. with_cell more (cell_at l.page x l.y)) l.initial.styles.items (range_with_len 0 l.x)
