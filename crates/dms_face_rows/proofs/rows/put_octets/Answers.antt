use Rattle.std.proofs.Common.{◌∙◌, ◌<◌, length, ap, arith}
use Rattle.std.specs.Prelude.{slice_index_or, slice_set}
use Rattle.dms_face_pages.specs.Drawn.{unlit}
use Rattle.dms_face_pages.specs.PageOctets.{cell_octet}
use Rattle.dms_face_pages.proofs.Filled.{filled_more}
use Rattle.dms_face_rows.proofs.rows.put_octets.Goals as goal

pub loop-x-preserved : goal.loop-x-preserved
loop-x-preserved c =
    let inside : c.loop-x.x < length c.args.octets.now = omega (arith, c.loop-x-test.true, c.requires.room) in
    ap (λ octet. slice_set c.loop-x.octets c.loop-x.x octet) c.octet_at.ensures
    ∙ filled_more (λ x. cell_octet c.args.layer (slice_index_or c.args.cells.now x (unlit 0))) c.loop-x.x c.args.octets.now c.loop-x.octets inside c.loop-x.invariant
