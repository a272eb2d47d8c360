-- the code that activates a message, as a line (this profile)
use Rattle.std.specs.Prelude.{ℕ, List, ◌++◌, codes}
use Rattle.hex.specs.Hex.{encode_lower}
use Rattle.dms_codes.specs.declared.codes.Order.{Order}
use Rattle.dms_codes.specs.declared.codes.Activation.{Activation}
use Rattle.dms_codes.specs.Codes.{octets_of_activation}

-- its twelve octets in small hexadecimal digits, a checksum with its octets in this order
abbrev pub code_line : Order → Activation → List ℕ
code_line order code = (codes "code " ++ encode_lower (octets_of_activation order code)) ++ codes "\n"
