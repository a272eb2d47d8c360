use Rattle.std.proofs.Common.{◌<◌, length, arith}
use Rattle.dms_face_picture.specs.Picture.{said}
use Rattle.dms_face_picture.proofs.Ranges.{items_more}
use Rattle.dms_face_picture.proofs.description.put_octets.Goals as goal

pub loop-octet-preserved : goal.loop-octet-preserved
loop-octet-preserved c =
    let inside : c.loop-octet.octet-index < length c.args.text.now = omega (arith, c.loop-octet-test.true) in
    items_more said _ _ _ c.args.text.now c.loop-octet.octet-index _ inside c.loop-octet.invariant c.in_ok-put_octet.ensures
