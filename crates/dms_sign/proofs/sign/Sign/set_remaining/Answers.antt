use Rattle.std.proofs.Common.{subst, sym, arith}
use Rattle.dms_sign.specs.InRange.{IsTimeInRange}
use Rattle.dms_sign.proofs.InRangeShown.{seconds_in_range}
use Rattle.dms_sign.proofs.sign.Sign.set_remaining.Goals as goal

pub remain-requires : goal.remain-requires
remain-requires c = subst IsTimeInRange (sym c.seconds_of.ensures) (seconds_in_range c.args.minutes (omega arith))
