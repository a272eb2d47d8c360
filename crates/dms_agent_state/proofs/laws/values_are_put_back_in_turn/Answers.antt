use Rattle.std.proofs.Common.{ap}
use Rattle.dms_agent_state.proofs.TakenOver.{written_in_turn}
use Rattle.dms_agent_state.proofs.laws.values_are_put_back_in_turn.Goals as goal

pub returns : goal.returns
returns c = λ a first second. ap (λ objects. record a { device = objects }) (written_in_turn a.device first second)
