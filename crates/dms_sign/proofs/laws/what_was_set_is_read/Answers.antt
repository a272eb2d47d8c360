use Rattle.dms_sign.proofs.ReadAsSet.{number_is_read, code_is_read}
use Rattle.dms_sign.proofs.laws.what_was_set_is_read.Goals as goal

pub returns-clause-number : goal.returns-clause-number
returns-clause-number c = number_is_read

pub returns-clause-code : goal.returns-clause-code
returns-clause-code c = code_is_read
