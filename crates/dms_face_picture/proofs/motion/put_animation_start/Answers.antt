use Rattle.std.proofs.Common.{◌∙◌, ◌++◌, ap, codes}
use Rattle.dms_face_picture.specs.Motion.{seconds, value}
use Rattle.dms_face_picture.proofs.Parts.{four_parts, OnOk-map}
use Rattle.dms_face_picture.proofs.motion.put_animation_start.Goals as goal

pub returns : goal.returns
returns c =
    let tag = codes "<animate attributeName=\"opacity\" calcMode=\"discrete\" repeatCount=\"indefinite\" dur=\"" in
    let values = codes "s\" values=\"" in
    let whole = four_parts _ _ _ _ c.put-3.new.out.items tag (seconds c.args.tenths) values (value c.args.first)
    c.in_ok-put.ensures c.in_ok-put_seconds.ensures c.in_ok-put-2.ensures in
    OnOk-map c.put-3.result _ _ (λ put. whole (put ∙ ap (λ text. c.put-2.new.out.items ++ text) c.value.ensures)) c.put-3.ensures
