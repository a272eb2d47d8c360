-- An activation is what its octets say.
use Rattle.std.proofs.Common.{◌≡◌, arith}
use Rattle.dms_codes.specs.declared.codes.Order.{Order}
use Rattle.dms_codes.specs.declared.codes.Activation.{Activation}
use Rattle.dms_codes.specs.Codes.{octets_of_activation, activation_of, IsActivation}
use Rattle.dms_codes.proofs.Places.{all_four}

pub activation_back : (order : Order) (a : Activation) → IsActivation a → activation_of order (octets_of_activation order a) ≡ a
activation_back order a is = grind (arith, all_four)
