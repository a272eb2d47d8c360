use Rattle.std.proofs.Common.{arith}
use Rattle.dms_centre_jobs.proofs.Lengths.{length-number_element}
use Rattle.dms_centre_jobs.proofs.short.size_of_number.Goals as goal

pub returns-clause-small : goal.returns-clause-small
returns-clause-small c = omega (arith, c.size_of_unsigned.ensures 2, length-number_element c.args.number (omega arith))
