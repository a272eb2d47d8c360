use Rattle.std.proofs.Common.{◌≡◌, length}
use Rattle.dms_device_fonts.specs.View.{lowest}
use Rattle.dms_device_fonts.proofs.ends.lowest.Given as goal

abbrev pub invariant-loop-glyph : goal.invariant-loop-glyph
invariant-loop-glyph l = lowest l.least l.found l.rest ≡ lowest l.least 65536 l.glyphs

abbrev pub decreases-loop-glyph : goal.decreases-loop-glyph
decreases-loop-glyph l = length l.rest
