use Rattle.std.proofs.Common.{arith}
use Rattle.std.proofs.lemmas.Grind.{common_steps}
use Rattle.dms_wire_ber.specs.Reading.{content_at, length_at}
use Rattle.dms_wire.specs.Reading.{value_at, after_tag, value_from}
use Rattle.dms_wire.proofs.value.read_value.Goals as goal

-- NULL with its one-octet length
pub returns-in-5-clause-exact : goal.returns-in-5-clause-exact
unfolding value_at after_tag content_at length_at value_from
returns-in-5-clause-exact c = grind (arith, common_steps)
