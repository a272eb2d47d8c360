use Rattle.dms_centre_laws.proofs.Ordered.{codes_are_ordered}
use Rattle.dms_centre_laws.proofs.laws.codes_are_ordered.Goals as goal

pub returns : goal.returns
returns c = codes_are_ordered
