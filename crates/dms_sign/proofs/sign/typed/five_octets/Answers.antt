use Rattle.std.proofs.Common.{subst, arith}
use Rattle.std.specs.Int.Digits.{AllBelowBase}
use Rattle.dms_sign.proofs.sign.typed.five_octets.Goals as goal

pub returns : goal.returns
returns c = record {
  size = omega arith;
  below = subst (AllBelowBase 256) c.as_slice.ensures c.octets_are_octets.ensures;
}
