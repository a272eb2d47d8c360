use Rattle.std.proofs.Common.{◌≡◌, ◌-◌}
use Rattle.dms_face_font.specs.Held.{left_of, AreHeld}
use Rattle.dms_face_font.proofs.glyph.hold.Given as goal

abbrev pub invariant-octets : goal.invariant-octets
invariant-octets l = (left_of l.bits ≡ left_of l.initial.bits) × AreHeld l.bits

abbrev pub decreases-octets : goal.decreases-octets
decreases-octets l = l.width - l.bits.count
