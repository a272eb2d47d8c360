use Rattle.std.proofs.Common.{length, refl, sym, ap, arith}
use Rattle.dms_centre_jobs.proofs.ShortFields.{short_number, long_number}
use Rattle.dms_centre_jobs.proofs.fields.size_of_number_field.Goals as goal

pub returns-then-number-lt128-clause-exact : goal.returns-then-number-lt128-clause-exact
returns-then-number-lt128-clause-exact c row column short = sym (ap length (short_number column row _ c.args.number refl short (omega arith)))

pub returns-else-number-lt128-clause-exact : goal.returns-else-number-lt128-clause-exact
returns-else-number-lt128-clause-exact c row column short = sym (ap length (long_number column row _ c.args.number refl short (omega arith) (omega arith)))
