use Rattle.std.proofs.Common.{arith}
use Rattle.dms_agent_state.proofs.saving.put_sign.Goals as goal

pub returns-clause-octets : goal.returns-clause-octets
returns-clause-octets c = record {
  place = omega (arith, c.put_saved.ensures.size);
  buffer = c.put_saved.ensures.text;
  reach = omega arith;
}
