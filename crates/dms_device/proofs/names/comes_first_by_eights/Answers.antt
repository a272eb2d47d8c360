use Rattle.std.proofs.Common.{sym, ◌∙◌, arith}
use Rattle.dms_device.proofs.EightOctets.{eight_decide, same_eight}
use Rattle.dms_device.proofs.names.comes_first_by_eights.Goals as goal

pub returns-then-one-other-eq0 : goal.returns-then-one-other-eq0
returns-then-one-other-eq0 c =
    eight_decide c.args.first.now c.args.second.now c.loop-at.at c.eight_octets-one.result c.eight_octets-other.result c.requires.first
    c.requires.second (λ k. (c.type_inv.first k).fits) (λ k. (c.type_inv.second k).fits) c.loop-at.invariant.1 (omega arith) (omega arith)
    c.eight_octets-one.ensures c.eight_octets-other.ensures (grind (arith, c.if-one-other-eq0.true)) (λ e. grind (arith, c.if-one-other.true))

pub loop-at-preserved : goal.loop-at-preserved
loop-at-preserved c = (
  omega arith,
  same_eight c.args.first.now c.args.second.now c.loop-at.at (λ k. (c.type_inv.first k).fits) (λ k. (c.type_inv.second k).fits)
      c.loop-at.invariant.1 (omega arith) (omega arith) (sym c.eight_octets-one.ensures ∙ grind (arith, c.if-one-other.false) ∙ c.eight_octets-other.ensures),
)
