use Rattle.std.proofs.Common.{◌≡◌, ◌+◌, ◌*◌, ◌≤◌, map, take, drop, length, refl, ap, subst, ◌∙◌, arith}
use Rattle.std.proofs.lemmas.List.{length-set, drop-drop}
use Rattle.dms_face_font.specs.Glyph.{bits_of, rows_of, row_number}
use Rattle.dms_face_font.specs.Held.{left_of}
use Rattle.dms_face_font.proofs.RowNumbers.{one_row_more, all_rows}
use Rattle.dms_face_font.proofs.HeldLaws.{row_inside}
use Rattle.dms_face_font.proofs.glyph.put_rows.Goals as goal

pub loop-row-init : goal.loop-row-init
loop-row-init c = record {
  front = refl;
  long = omega arith;
  left = ap (λ k. drop k (bits_of c.args.bits.now)) (let e : 0 ≡ 0 * c.from-width.result = omega arith in e);
  held = record { few = omega arith; small = omega arith };
}

pub take_row-requires-clause-room : goal.take_row-requires-clause-room
take_row-requires-clause-room c =
    row_inside c.args.bits.now (left_of c.loop-row.left) c.loop-row.row c.from-width.result c.args.height c.loop-row.invariant.left (omega arith)
    (subst (λ w. w * c.args.height ≤ 8 * length c.args.bits.now) (let e : c.args.width ≡ c.from-width.result = omega (arith, c.from-width.ensures) in e) c.requires.room)

pub loop-row-preserved : goal.loop-row-preserved
loop-row-preserved c =
    let bits = bits_of c.args.bits.now in
    let width = c.from-width.result in
    let row = c.loop-row.row in
    let next : row * width + width ≡ (row + 1) * width = omega arith in
    let number = c.take_row.ensures.row ∙ ap (λ left. row_number (take width left)) c.loop-row.invariant.left in
    record {
      front = one_row_more width c.args.height row (row * width) c.take_row.result bits c.loop-row.rows (omega arith) (omega (arith, c.loop-row.invariant.long)) refl c.loop-row.invariant.front number;
      long = length-set c.loop-row.rows row c.take_row.result ∙ c.loop-row.invariant.long;
      left = c.take_row.ensures.left ∙ ap (drop width) c.loop-row.invariant.left ∙ drop-drop width (row * width) bits ∙ ap (λ k. drop k bits) next;
      held = c.take_row.ensures.held;
    }

pub returns : goal.returns
returns c =
    let bits = bits_of c.args.bits.now in
    all_rows c.args.width c.args.height c.loop-row.row bits c.loop-row.rows (omega (arith, c.from-row-end.ensures))
    (subst (λ width. take c.loop-row.row c.loop-row.rows ≡ map row_number (take c.loop-row.row (rows_of width c.args.height bits))) c.from-width.ensures c.loop-row.invariant.front)
