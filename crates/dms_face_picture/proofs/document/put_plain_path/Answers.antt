use Rattle.std.proofs.Common.{codes}
use Rattle.dms_face_picture.specs.Lamps.{whole_rows}
use Rattle.dms_face_picture.specs.Picture.{dashes_start}
use Rattle.dms_face_picture.proofs.Parts.{three_parts, OnOk-map}
use Rattle.dms_face_picture.proofs.document.put_plain_path.Goals as goal

pub returns : goal.returns
returns c =
    let whole = three_parts _ _ _ c.put.new.out.items (dashes_start c.args.colour) (whole_rows c.args.width c.args.height)
    (codes "\"/>\n") c.in_ok-put_dashes_start.ensures c.in_ok-put_whole_rows.ensures in
    OnOk-map c.put.result _ _ whole c.put.ensures
