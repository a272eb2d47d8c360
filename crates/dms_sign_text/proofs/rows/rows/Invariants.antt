use Rattle.std.proofs.Common.{◌≡◌, [], map, length}
use Rattle.dms_sign_text.specs.RefusedLine.{octets_of, Leaves}
use Rattle.dms_sign_text.specs.Views.{row_seen}
use Rattle.dms_sign_text.specs.DescriptionReading.{rows_from}
use Rattle.dms_sign_text.proofs.rows.rows.Given as goal

abbrev pub invariant-loop-line : goal.invariant-loop-line
invariant-loop-line l = (rows_from (map row_seen l.rows.items) (octets_of l.lines.lines) ≡ rows_from [] (octets_of l.fn.lines.lines)) × Leaves l.fn.lines l.lines

abbrev pub decreases-loop-line : goal.decreases-loop-line
decreases-loop-line l = length l.lines.lines
