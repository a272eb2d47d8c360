use Rattle.std.proofs.Common.{◌<◌, length, arith}
use Rattle.dms_face_picture.specs.Picture.{style_path}
use Rattle.dms_face_picture.proofs.Ranges.{items_more}
use Rattle.dms_face_picture.proofs.document.put_paths.Goals as goal

pub loop-style-preserved : goal.loop-style-preserved
loop-style-preserved c =
    let inside : c.loop-style.style-index < length c.args.styles.now = omega (arith, c.loop-style-test.true) in
    items_more (style_path c.args.motion c.args.page.now) _ _ _ c.args.styles.now c.loop-style.style-index _ inside c.loop-style.invariant c.in_ok-put_style_path.ensures
