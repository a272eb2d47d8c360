use Rattle.std.proofs.Common.{◌∙◌, ◌++◌, flat_map, ap, codes}
use Rattle.dms_face_picture.specs.Lamps.{styles_of}
use Rattle.dms_face_picture.specs.Motion.{page_animation}
use Rattle.dms_face_picture.specs.Picture.{plain_path, style_path}
use Rattle.dms_face_picture.proofs.Parts.{five_parts, OnOk-map}
use Rattle.dms_face_picture.proofs.document.put_page.Goals as goal

pub returns : goal.returns
returns c =
    let page = c.args.page.now in
    let motion = c.args.motion in
    let background = ap (λ colour. plain_path colour c.width.result c.height.result) c.back.ensures
    ∙ ap (λ width. plain_path page.background width c.height.result) c.width.ensures
    ∙ ap (plain_path page.background page.width) c.height.ensures in
    let plain = c.in_ok-put_plain_path.ensures ∙ ap (λ text. c.put_page_animation.new.out.items ++ text) background in
    let whole = five_parts _ _ _ _ _ c.put-2.new.out.items (codes "<g>") (page_animation motion) (plain_path page.background page.width page.height)
    (flat_map (style_path motion page) (styles_of page)) (codes "</g>\n") c.in_ok-put.ensures c.in_ok-put_page_animation.ensures plain c.in_ok-put_style_paths.ensures in
    OnOk-map c.put-2.result _ _ whole c.put-2.ensures
