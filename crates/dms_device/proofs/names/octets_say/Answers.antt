use Rattle.std.proofs.Common.{inl, inr, arith}
use Rattle.dms_device.proofs.FirstOctets.{octets_differ, octets_end}
use Rattle.dms_device.proofs.names.octets_say.Goals as goal

pub returns-then-other-lt128 : goal.returns-then-other-lt128
returns-then-other-lt128 c =
    octets_differ c.args.first.now c.args.second.now c.loop-at.at c.requires.first c.requires.second c.loop-at.invariant.1 (omega arith)
    (omega arith) (λ e. grind (arith, c.if-one-other.true)) (elim c.if-other-lt128.either [ inl a ↦ inl a | inr b ↦ inr b.1 ])

pub returns : goal.returns
returns c =
    octets_end c.args.first.now c.args.second.now c.loop-at.at c.requires.first c.requires.second c.loop-at.invariant.1 (omega arith)
