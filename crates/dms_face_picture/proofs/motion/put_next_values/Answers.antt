use Rattle.std.proofs.Common.{◌≡◌, ◌∙◌, ◌+◌, ◌-◌, ◌++◌, ap, arith}
use Rattle.std.specs.List.{flat_map, range_with_len}
use Rattle.dms_face_picture.specs.Motion.{next_value}
use Rattle.dms_face_picture.proofs.Ranges.{written_more}
use Rattle.dms_face_picture.proofs.motion.put_next_values.Goals as goal

pub loop-tenth-preserved : goal.loop-tenth-preserved
loop-tenth-preserved c =
    let at = c.loop-tenth.tenth in
    let begun = c.loop-tenth.invariant.begun in
    record {
      text = written_more (next_value c.args.rhythm) _ _ _ 1 (at - 1) at (at + 1 - 1) (omega (arith, begun)) (omega (arith, begun)) c.loop-tenth.invariant.text c.in_ok-put_next_value.ensures;
      begun = omega arith;
    }

pub returns : goal.returns
returns c =
    let at_end : c.loop-tenth.tenth - 1 ≡ c.args.tenths - 1 = omega (arith, c.loop-tenth.invariant.begun, c.requires) in
    c.loop-tenth.invariant.text ∙ ap (λ n. c.args.out.now.items ++ flat_map (next_value c.args.rhythm) (range_with_len 1 n)) at_end
