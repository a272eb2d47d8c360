use Rattle.dms_codes.proofs.Activations.{activation_back}
use Rattle.dms_codes.proofs.laws.activations_are_their_octets.Goals as goal

pub returns-clause-activation : goal.returns-clause-activation
returns-clause-activation c = activation_back
