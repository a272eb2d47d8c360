use Rattle.std.proofs.Common.{◌≡◌, ◌∙◌, ◌+◌, ◌-◌, ◌==◌, ◌&&◌, refl, ap, arith}
use Rattle.std.specs.Prelude.{nat_le}
use Rattle.std.specs.Int.{w32, trailing_zeros}
use Rattle.dms_face_font.specs.Glyph.{is_bit}
use Rattle.dms_face_pages.specs.Styled.{style}
use Rattle.dms_face_pages.proofs.BitLaws.{lowest_bit, is_done, one_done, all_done, still_among}
use Rattle.dms_face_pages.proofs.DrawingLaws.{lights_same, lights_more, still}
use Rattle.dms_face_pages.proofs.drawing.light_each.Goals as goal

pub loop-left-init : goal.loop-left-init
loop-left-init c = grind arith

pub light-requires : goal.light-requires
light-requires c =
    let low = (lowest_bit c.loop-left.left (trailing_zeros w32 c.loop-left.left) (omega arith) c.loop-left.invariant.small refl) in
    record {
      inside = omega (arith, c.loop-left.invariant.lit.len, c.requires.inside (trailing_zeros w32 c.loop-left.left) (c.loop-left.invariant.among (trailing_zeros w32 c.loop-left.left) low.1));
      number = still c.args.number c.args.cells.now c.loop-left.cells c.loop-left.invariant.lit.styles c.requires.number;
    }

pub loop-left-preserved : goal.loop-left-preserved
loop-left-preserved c =
    let low = (lowest_bit c.loop-left.left (trailing_zeros w32 c.loop-left.left) (omega arith) c.loop-left.invariant.small refl) in
    record {
      lit = lights_more (is_done c.args.first c.args.row c.loop-left.left) (λ k. k == c.args.first + (trailing_zeros w32 c.loop-left.left))
          (is_done c.args.first c.args.row c.without-left.result) c.args.number c.args.cells.now c.loop-left.cells c.light.new.self
          c.requires.number c.loop-left.invariant.lit c.light.ensures
          (λ place below. one_done c.args.first c.args.row c.loop-left.left (trailing_zeros w32 c.loop-left.left) c.without-left.result place low.1 c.loop-left.invariant.among c.without-left.ensures.bits);
      among = still_among c.args.row c.loop-left.left (trailing_zeros w32 c.loop-left.left) c.without-left.result c.loop-left.invariant.among c.without-left.ensures.bits;
      small = omega (arith, c.loop-left.invariant.small, c.without-left.ensures.less low.1);
    }

pub returns : goal.returns
returns c =
    lights_same (is_done c.args.first c.args.row c.loop-left.left) (λ place. nat_le c.args.first place && is_bit c.args.row (place - c.args.first)) (style c.args.cells.now.styles c.args.number)
    c.args.cells.now c.loop-left.cells
    (λ place below. ap (λ left. is_done c.args.first c.args.row left place) (let none : c.loop-left.left ≡ 0 = omega arith in none) ∙ all_done c.args.first c.args.row place)
    c.loop-left.invariant.lit

pub without-left-requires : goal.without-left-requires
without-left-requires c = (lowest_bit c.loop-left.left (trailing_zeros w32 c.loop-left.left) (omega arith) c.loop-left.invariant.small refl).0

pub loop-left-smaller : goal.loop-left-smaller
loop-left-smaller c = c.without-left.ensures.less (lowest_bit c.loop-left.left (trailing_zeros w32 c.loop-left.left) (omega arith) c.loop-left.invariant.small refl).1
