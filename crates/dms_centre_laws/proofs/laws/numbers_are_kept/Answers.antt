use Rattle.dms_centre_laws.proofs.NumberLaws.{kept_input}
use Rattle.dms_centre_laws.proofs.laws.numbers_are_kept.Goals as goal

pub returns-clause-input : goal.returns-clause-input
returns-clause-input c = kept_input
