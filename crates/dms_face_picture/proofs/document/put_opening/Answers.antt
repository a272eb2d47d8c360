use Rattle.dms_face_picture.specs.Picture.{board, plain_path}
use Rattle.dms_face_picture.proofs.Parts.{two_parts, OnOk-map}
use Rattle.dms_face_picture.proofs.document.put_opening.Goals as goal

pub returns : goal.returns
returns c =
    let width = c.args.width in
    let height = c.args.height in
    let whole = two_parts c.args.out.now.items _ c.put_plain_path.new.out.items (board width height c.args.text.now) (plain_path 0 width height) c.in_ok-put_board.ensures in
    OnOk-map c.put_plain_path.result _ _ whole c.put_plain_path.ensures
