use Rattle.std.proofs.Common.{arith}
use Rattle.std.proofs.lemmas.Grind.{common_steps}
use Rattle.dms_wire_ber.specs.Reading.{length_at, content_at, element_at, integer_value}
use Rattle.dms_wire.specs.Reading.{version_at}
use Rattle.dms_wire.proofs.message.after_version.Goals as goal

-- 0, its length in the short form
pub returns-in-2-clause-exact : goal.returns-in-2-clause-exact
unfolding version_at element_at content_at length_at integer_value
returns-in-2-clause-exact c = grind (arith, common_steps)
