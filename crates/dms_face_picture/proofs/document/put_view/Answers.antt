use Rattle.std.proofs.Common.{codes, decimal}
use Rattle.dms_face_picture.proofs.Parts.{five_parts, OnOk-map}
use Rattle.dms_face_picture.proofs.document.put_view.Goals as goal

pub returns : goal.returns
returns c =
    let whole = five_parts _ _ _ _ _ c.put-3.new.out.items (codes "<svg xmlns=\"http://www.w3.org/2000/svg\" viewBox=\"-1 -1 ") (decimal c.args.columns) (codes " ") (decimal c.args.rows)
    (codes "\"") c.in_ok-put.ensures c.in_ok-put_number.ensures c.in_ok-put-2.ensures c.in_ok-put_number-2.ensures in
    OnOk-map c.put-3.result _ _ whole c.put-3.ensures
