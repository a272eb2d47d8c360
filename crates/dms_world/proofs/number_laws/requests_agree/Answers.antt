use Rattle.dms_world.proofs.WorldNumbers as numbers
use Rattle.dms_world.proofs.number_laws.requests_agree.Goals as goal

pub returns : goal.returns
returns c = numbers.requests_agree
