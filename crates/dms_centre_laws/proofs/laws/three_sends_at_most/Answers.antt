use Rattle.dms_centre_laws.proofs.NumberLaws.{three_sends}
use Rattle.dms_centre_laws.proofs.laws.three_sends_at_most.Goals as goal

pub returns : goal.returns
returns c = three_sends
