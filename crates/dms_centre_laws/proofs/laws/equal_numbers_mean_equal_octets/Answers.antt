use Rattle.dms_centre_laws.proofs.NumberLaws.{equal_numbers}
use Rattle.dms_centre_laws.proofs.laws.equal_numbers_mean_equal_octets.Goals as goal

pub returns : goal.returns
returns c = equal_numbers
