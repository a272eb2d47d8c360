use Rattle.std.proofs.Common.{◌≡◌, [], length}
use Rattle.dms_sign_text.specs.DescriptionReading.{fonts_from}
use Rattle.dms_sign_text.specs.RefusedLine.{octets_of, Leaves}
use Rattle.dms_sign_text.proofs.fonts.fonts_from.Given as goal

abbrev pub invariant-loop-line : goal.invariant-loop-line
invariant-loop-line l =
    (fonts_from l.fonts.items l.font (octets_of l.lines.lines) ≡ fonts_from [] l.fn.first (octets_of l.fn.lines.lines)) × Leaves l.fn.lines l.lines

abbrev pub decreases-loop-line : goal.decreases-loop-line
decreases-loop-line l = length l.lines.lines
