use Rattle.std.proofs.Common.{codes, decimal}
use Rattle.dms_face_picture.proofs.Parts.{five_parts, OnOk-map}
use Rattle.dms_face_picture.proofs.document.put_plate.Goals as goal

pub returns : goal.returns
returns c =
    let whole = five_parts _ _ _ _ _ c.put-3.new.out.items (codes "<path stroke=\"none\" fill=\"#202020\" d=\"M-1-1h") (decimal c.args.columns) (codes "v") (decimal c.args.rows)
    (codes "H-1z\"/>\n") c.in_ok-put.ensures c.in_ok-put_number.ensures c.in_ok-put-2.ensures c.in_ok-put_number-2.ensures in
    OnOk-map c.put-3.result _ _ whole c.put-3.ensures
