use Rattle.std.proofs.Common.{◌≡◌, length}
use Rattle.dms_text.specs.Lines.{lines_left}
use Rattle.dms_face_font.specs.FontReading.{glyphs_added}
use Rattle.dms_face_font.proofs.font_text.with_glyphs.Given as goal

abbrev pub invariant-loop-line : goal.invariant-loop-line
invariant-loop-line l = glyphs_added l.font (lines_left l.lines) ≡ glyphs_added l.initial.font (lines_left l.initial.lines)

abbrev pub decreases-loop-line : goal.decreases-loop-line
decreases-loop-line l = length (lines_left l.lines)
