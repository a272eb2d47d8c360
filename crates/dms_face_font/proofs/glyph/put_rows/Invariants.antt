use Rattle.std.proofs.Common.{◌≡◌, ◌*◌, length, map, take, drop}
use Rattle.dms_face_font.specs.Glyph.{row_number, rows_of, bits_of}
use Rattle.dms_face_font.specs.Held.{left_of, AreHeld}
use Rattle.dms_face_font.proofs.glyph.put_rows.Given as goal

abbrev pub invariant-loop-row : goal.invariant-loop-row
invariant-loop-row l = record {
  front : take l.row l.rows ≡ map row_number (take l.row (rows_of l.width l.height (bits_of l.bits)));
  long : length l.rows ≡ 32;
  left : left_of l.left ≡ drop (l.row * l.width) (bits_of l.bits);
  held : AreHeld l.left;
}
