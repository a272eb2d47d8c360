use Rattle.std.proofs.Common.{◌≡◌, ◌+◌, ◌-◌, ◌/◌, ◌%◌, ◌<◌, ◌≤◌, ◌&&◌, arith}
use Rattle.std.specs.Prelude.{nat_le}
use Rattle.dms_face_font.specs.Glyph.{is_bit}
use Rattle.dms_face_pages.specs.Styled.{style}
use Rattle.dms_face_pages.proofs.DrawingLaws.{lights_same, lights_more}
use Rattle.dms_face_pages.proofs.MaskLaws.{is_lit_before, eight_done, next_left, not_ended, none_left}
use Rattle.dms_face_pages.proofs.drawing.light_bits.Goals as goal

pub loop-left-preserved : goal.loop-left-preserved
loop-left-preserved c =
    let first = c.args.first in
    let row = c.args.row in
    let left = c.loop-left.left in
    let place = c.loop-left.place in
    let so_far = c.loop-left.invariant in
    let near : place < first + 32 = not_ended first row left place so_far.from (omega arith) so_far.small (omega arith) so_far.bits in
    record {
      lit = lights_more (is_lit_before first row place) (λ k. nat_le place k && is_bit (left % 256) (k - place)) (is_lit_before first row (place + 8)) c.args.number c.args.cells.now
          c.loop-left.cells c.light_eight.new.self c.requires.number so_far.lit c.light_eight.ensures (λ k below. eight_done first row left place k so_far.from so_far.bits);
      bits = next_left first row left place so_far.from so_far.bits;
      from = omega (arith, so_far.from);
      near = omega arith;
      small = omega (arith, so_far.small);
    }

pub returns : goal.returns
returns c =
    let first = c.args.first in
    let row = c.args.row in
    let left = c.loop-left.left in
    let place = c.loop-left.place in
    let so_far = c.loop-left.invariant in
    lights_same (is_lit_before first row place) (λ k. nat_le first k && is_bit row (k - first)) (style c.args.cells.now.styles c.args.number) c.args.cells.now c.loop-left.cells
    (λ k below. none_left first row left place k so_far.from so_far.bits (let none : left ≡ 0 = omega arith in none)) so_far.lit
