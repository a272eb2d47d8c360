-- What lines that are printed have in common (this profile).
use Rattle.std.specs.Prelude.{ℕ, List, ◌++◌, codes}
use Rattle.hex.specs.Hex.{encode_lower}
use Rattle.dms_codes.specs.declared.codes.Order.{Order}
use Rattle.dms_codes.specs.declared.codes.Activation.{Activation}
use Rattle.dms_codes.specs.Codes.{octets_of_activation}

-- the twelve octets of a code
abbrev pub code_text : Order → Activation → List ℕ
code_text order code = encode_lower (octets_of_activation order code)

-- a line with its end
abbrev pub ended : List ℕ → List ℕ
ended line = line ++ codes "\n"
