use Rattle.std.proofs.Common.{length}
use Rattle.dms_text.specs.Lines.{lines_left}
use Rattle.dms_measures.proofs.fonts_of.Given as goal

abbrev pub decreases-loop-line : goal.decreases-loop-line
decreases-loop-line l = length (lines_left l.lines)
