-- What single words of a command's line spell (this profile).
use Rattle.std.specs.Prelude.{◌≡◌, ℕ, List, Ok}
use Rattle.hex.specs.Hex.{decode_of}
use Rattle.dms_codes.specs.declared.codes.Order.{Order}
use Rattle.dms_codes.specs.declared.codes.Activation.{Activation}
use Rattle.dms_codes.specs.Codes.{octets_of_activation, IsActivation}

-- the twelve octets of a code, as pairs of hexadecimal digits
pub record SpellsCode (order : Order) (code : Activation) (word : List ℕ) : Type 0 where
  pub is_code : IsActivation code
  pub digits : decode_of word ≡ Ok (octets_of_activation order code)
