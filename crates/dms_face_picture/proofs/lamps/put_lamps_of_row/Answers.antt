use Rattle.std.proofs.Common.{◌+◌, arith}
use Rattle.dms_face_picture.specs.Lamps.{lamp}
use Rattle.dms_face_picture.proofs.Ranges.{written_more}
use Rattle.dms_face_picture.proofs.lamps.put_lamps_of_row.Goals as goal

pub loop-x-preserved : goal.loop-x-preserved
loop-x-preserved c =
    let at = c.loop-x.x in
    written_more (lamp c.args.page.now c.args.style c.args.y) _ _ _ 0 at at (at + 1) (omega arith) (omega arith) c.loop-x.invariant c.in_ok-put_lamp.ensures
