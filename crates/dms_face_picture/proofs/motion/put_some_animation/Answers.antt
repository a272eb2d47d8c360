use Rattle.std.proofs.Common.{◌∙◌, ◌-◌, ◌++◌, ap, codes}
use Rattle.std.specs.List.{flat_map, range_with_len}
use Rattle.dms_face_picture.specs.Motion.{is_on, next_value, animation_start}
use Rattle.dms_face_picture.proofs.Parts.{three_parts, OnOk-map}
use Rattle.dms_face_picture.proofs.motion.put_some_animation.Goals as goal

pub returns : goal.returns
returns c =
    let old = c.args.out.now.items in
    let tenths = c.args.tenths in
    let rhythm = c.args.rhythm in
    let begun = c.in_ok-put_animation_start.ensures ∙ ap (λ first. old ++ animation_start tenths first) c.is_on.ensures in
    let whole = three_parts old _ _ c.put.new.out.items (animation_start tenths (is_on rhythm 0)) (flat_map (next_value rhythm) (range_with_len 1 (tenths - 1)))
    (codes "\"/>") begun c.in_ok-put_next_values.ensures in
    OnOk-map c.put.result _ _ whole c.put.ensures
