use Rattle.std.proofs.Common.{◌∙◌, ◌+◌, ◌++◌, ap}
use Rattle.dms_face_picture.specs.Picture.{svg_tag, title, description, plate}
use Rattle.dms_face_picture.proofs.Parts.{four_parts, OnOk-map}
use Rattle.dms_face_picture.proofs.document.put_board.Goals as goal

pub returns : goal.returns
returns c =
    let width = c.args.width in
    let height = c.args.height in
    let sizes = ap (λ columns. svg_tag (columns + 1) (c.from-rows.result + 1)) c.from-columns.ensures ∙ ap (λ rows. svg_tag (width + 1) (rows + 1)) c.from-rows.ensures in
    let begun = c.in_ok-put_svg_tag.ensures ∙ ap (λ text. c.args.out.now.items ++ text) sizes in
    let under = ap (λ columns. plate (columns + 1) (c.from-rows.result + 1)) c.from-columns.ensures ∙ ap (λ rows. plate (width + 1) (rows + 1)) c.from-rows.ensures in
    let whole = four_parts c.args.out.now.items _ _ _ c.put_plate.new.out.items (svg_tag (width + 1) (height + 1)) (title width height) (description c.args.text.now)
    (plate (width + 1) (height + 1)) begun c.in_ok-put_title.ensures c.in_ok-put_description.ensures in
    OnOk-map c.put_plate.result _ _ (λ put. whole (put ∙ ap (λ text. c.put_description.new.out.items ++ text) under)) c.put_plate.ensures
