use Rattle.std.proofs.Common.{◌≡◌, ℕ, ◌^◌, ◌<◌, true}
use Rattle.dms_face_font.specs.Glyph.{is_bit}
use Rattle.dms_face_pages.specs.Styled.{style, Lights}
use Rattle.dms_face_pages.proofs.BitLaws.{is_done}
use Rattle.dms_face_pages.proofs.drawing.light_each.Given as goal

abbrev pub invariant-loop-left : goal.invariant-loop-left
invariant-loop-left l = record {
  lit : Lights (is_done l.first l.row l.left) (style l.fn.cells.styles l.number) l.fn.cells l.cells;
  among : (k : ℕ) → is_bit l.left k ≡ true → is_bit l.row k ≡ true;
  small : l.left < 2 ^ 32;
}

abbrev pub decreases-loop-left : goal.decreases-loop-left
decreases-loop-left l = l.left
