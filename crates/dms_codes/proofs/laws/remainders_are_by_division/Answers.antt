use Rattle.dms_codes.proofs.Remainders.{remainder_at}
use Rattle.dms_codes.proofs.laws.remainders_are_by_division.Goals as goal

pub returns : goal.returns
returns c = remainder_at
