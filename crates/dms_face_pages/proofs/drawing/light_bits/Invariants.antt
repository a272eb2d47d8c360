use Rattle.std.proofs.Common.{◌≡◌, ℕ, ◌+◌, ◌-◌, ◌^◌, ◌<◌, ◌≤◌}
use Rattle.dms_face_font.specs.Glyph.{is_bit}
use Rattle.dms_face_pages.specs.Styled.{style, Lights}
use Rattle.dms_face_pages.proofs.MaskLaws.{is_lit_before}
use Rattle.dms_face_pages.proofs.drawing.light_bits.Given as goal

abbrev pub invariant-loop-left : goal.invariant-loop-left
invariant-loop-left l = record {
  lit : Lights (is_lit_before l.first l.row l.place) (style l.fn.cells.styles l.number) l.fn.cells l.cells;
  bits : (k : ℕ) → is_bit l.left k ≡ is_bit l.row (l.place - l.first + k);
  from : l.first ≤ l.place;
  near : l.place < l.first + 40;
  small : l.left < 2 ^ 32;
}

abbrev pub decreases-loop-left : goal.decreases-loop-left
decreases-loop-left l = l.left
