use Rattle.std.proofs.Common.{◌+◌, arith}
use Rattle.dms_face_picture.specs.Lamps.{lamps_of_row}
use Rattle.dms_face_picture.proofs.Ranges.{written_more}
use Rattle.dms_face_picture.proofs.lamps.put_lamps.Goals as goal

pub loop-y-preserved : goal.loop-y-preserved
loop-y-preserved c =
    let at = c.loop-y.y in
    written_more (lamps_of_row c.args.page.now c.args.style) _ _ _ 0 at at (at + 1) (omega arith) (omega arith) c.loop-y.invariant c.in_ok-put_lamps_of_row.ensures
