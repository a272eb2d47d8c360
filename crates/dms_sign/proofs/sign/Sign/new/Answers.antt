use Rattle.std.proofs.Common.{arith}
use Rattle.dms_sign.proofs.InRangeStart.{faultless_is_stocked}
use Rattle.dms_sign.proofs.sign.Sign.new.Goals as goal

pub of-requires-clause-stocked : goal.of-requires-clause-stocked
of-requires-clause-stocked c = grind (arith, faultless_is_stocked)

pub returns-in-Ok-clause-good : goal.returns-in-Ok-clause-good
returns-in-Ok-clause-good c = grind arith
