use Rattle.dms_centre_state.proofs.Reaching.{reached_start, reached_input, reached_inputs}
use Rattle.dms_centre_state.proofs.laws.states_are_reached.Goals as goal

pub returns-clause-made : goal.returns-clause-made
returns-clause-made c = reached_start

pub returns-clause-input : goal.returns-clause-input
returns-clause-input c = reached_input

pub returns-clause-inputs : goal.returns-clause-inputs
returns-clause-inputs c = reached_inputs
