use Rattle.std.proofs.Common.{length, sym, subst, ◌≤◌}
use Rattle.dms_face_font.proofs.HeldLaws.{some_octet}
use Rattle.dms_face_font.proofs.glyph.hold.Goals as goal

pub hold_octet-requires-clause-some : goal.hold_octet-requires-clause-some
hold_octet-requires-clause-some c =
    some_octet c.octets.bits c.args.width (subst (λ bits. c.args.width ≤ length bits) (sym c.octets.invariant.0) c.requires.room) c.octets-test.true
