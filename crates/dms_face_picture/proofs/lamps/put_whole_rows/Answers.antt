use Rattle.std.proofs.Common.{◌+◌, arith}
use Rattle.dms_face_picture.specs.Lamps.{whole_row}
use Rattle.dms_face_picture.proofs.Ranges.{written_more}
use Rattle.dms_face_picture.proofs.lamps.put_whole_rows.Goals as goal

pub loop-y-preserved : goal.loop-y-preserved
loop-y-preserved c =
    let at = c.loop-y.y in
    written_more (whole_row c.args.width) _ _ _ 0 at at (at + 1) (omega arith) (omega arith) c.loop-y.invariant c.in_ok-put_whole_row.ensures
