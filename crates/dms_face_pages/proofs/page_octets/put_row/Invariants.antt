use Rattle.std.proofs.Common.{◌≡◌, ◌++◌, [], ◌∷◌, flat_map}
use Rattle.std.specs.List.{range_with_len}
use Rattle.dms_face_pages.specs.Drawn.{cell_at}
use Rattle.dms_face_pages.specs.PageOctets.{cell_octet}
use Rattle.dms_face_pages.proofs.page_octets.put_row.Given as goal

abbrev pub invariant-loop-x : goal.invariant-loop-x
invariant-loop-x l = l.octets.items ≡ l.initial.octets.items ++ flat_map (λ x. cell_octet l.layer (cell_at l.page x l.y) ∷ []) (range_with_len 0 l.x)
