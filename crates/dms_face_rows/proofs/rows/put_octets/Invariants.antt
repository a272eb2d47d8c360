use Rattle.std.proofs.Common.{◌≡◌}
use Rattle.std.specs.Prelude.{slice_index_or}
use Rattle.dms_face_pages.specs.Drawn.{unlit}
use Rattle.dms_face_pages.specs.PageOctets.{cell_octet}
use Rattle.dms_face_pages.proofs.Filled.{filled}
use Rattle.dms_face_rows.proofs.rows.put_octets.Given as goal

abbrev pub invariant-loop-x : goal.invariant-loop-x
invariant-loop-x l = l.octets ≡ filled (λ x. cell_octet l.layer (slice_index_or l.cells x (unlit 0))) l.x l.fn.octets
