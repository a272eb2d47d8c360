use Rattle.std.proofs.Common.{arith}
use Rattle.std.proofs.lemmas.Grind.{common_steps}
use Rattle.dms_wire_ber.specs.Reading.{length_at, content_at, element_at, integer_value, integer_at}
use Rattle.dms_wire_ber.proofs.integer.read_integer.Goals as goal

-- one octet, its length in the short form
pub returns-in-2-clause-exact : goal.returns-in-2-clause-exact
unfolding integer_at element_at content_at length_at integer_value
returns-in-2-clause-exact c = grind (arith, common_steps)
