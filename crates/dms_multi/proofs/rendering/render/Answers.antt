use Rattle.std.proofs.Common.{◌<◌, arith}
use Rattle.dms_multi.proofs.CanonicalLaws.{passes_limit}
use Rattle.dms_multi.proofs.rendering.render.Goals as goal

pub returns-in-Err-clause-fits : goal.returns-in-Err-clause-fits
returns-in-Err-clause-fits c = grind (arith, passes_limit)
