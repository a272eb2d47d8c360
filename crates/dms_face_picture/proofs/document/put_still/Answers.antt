use Rattle.std.proofs.Common.{◌∙◌, ◌++◌, ap}
use Rattle.dms_face_picture.specs.declared.motion.Motion.TheVariants.{Still}
use Rattle.dms_face_picture.specs.Picture.{opening, page_group, closing}
use Rattle.dms_face_picture.proofs.Parts.{three_parts, OnOk-map}
use Rattle.dms_face_picture.proofs.document.put_still.Goals as goal

pub returns : goal.returns
returns c =
    let page = c.args.page.now in
    let text = c.args.text.now in
    let sizes = ap (λ width. opening width c.height.result text) c.width.ensures ∙ ap (λ height. opening page.width height text) c.height.ensures in
    let begun = c.in_ok-put_opening.ensures ∙ ap (λ begun. c.args.out.now.items ++ begun) sizes in
    let whole = three_parts _ _ _ c.put_closing.new.out.items (opening page.width page.height text) (page_group Still page) closing begun c.in_ok-put_page.ensures in
    OnOk-map c.put_closing.result _ _ whole c.put_closing.ensures
