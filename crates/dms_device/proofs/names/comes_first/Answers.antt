use Rattle.std.proofs.Common.{◌≡◌, take, refl, sym, ◌∙◌, arith}
use Rattle.dms_device.proofs.FirstOctets.{are_octets}
use Rattle.dms_device.proofs.EightOctets.{eight_decide, same_eight}
use Rattle.dms_device.proofs.names.comes_first.Goals as goal

pub returns-then-one-other-eq0 : goal.returns-then-one-other-eq0
returns-then-one-other-eq0 c =
    let first = c.args.first.now in
    let second = c.args.second.now in
    let left = are_octets first c.requires.first in
    let right = are_octets second c.requires.second in
    let same : take 8 first ≡ take 8 second =
    same_eight first second 0 left right refl (omega arith) (omega arith)
    (sym c.eight_octets.ensures ∙ grind (arith, c.if-eight_octets.true) ∙ c.eight_octets-then-second-ge16.ensures)
    in
    eight_decide first second 8 c.eight_octets-one.result c.eight_octets-other.result c.requires.first c.requires.second left right same
    (omega arith) (omega arith) c.eight_octets-one.ensures c.eight_octets-other.ensures (grind (arith, c.if-one-other-eq0.true))
    (λ e. grind (arith, c.if-one-other.true))
