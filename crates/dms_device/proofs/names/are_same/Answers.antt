use Rattle.std.proofs.Common.{length, refl, ap₂, ◌==◌, ◌∙◌, arith}
use Rattle.dms_device.proofs.FirstOctets.{are_octets}
use Rattle.dms_device.proofs.EightOctets.{last_eight}
use Rattle.dms_device.proofs.names.are_same.Goals as goal

pub returns : goal.returns
returns c =
    ap₂ (λ x y. x == y) c.eight_octets-2.ensures c.eight_octets-3.ensures
    ∙ last_eight c.args.first.now c.args.second.now c.loop-at.at (length c.args.first.now) (are_octets _ c.requires.first)
    (are_octets _ c.requires.second) refl (grind (arith, c.if-size-second.false)) (omega arith) (omega arith) c.loop-at.invariant.1
