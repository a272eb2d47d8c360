use Rattle.std.proofs.Common.{arith}
use Rattle.dms_sign_restored.proofs.RowsPut.{few}
use Rattle.dms_sign_restored.proofs.restoring.few_rows.Goals as goal

pub returns-clause-changeable : goal.returns-clause-changeable
returns-clause-changeable c = omega (arith, few 1 64 c.args.fields.now.changeable (omega arith) c.requires.changeable)

pub returns-clause-volatile : goal.returns-clause-volatile
returns-clause-volatile c = omega (arith, few 1 16 c.args.fields.now.volatile (omega arith) c.requires.volatile)
