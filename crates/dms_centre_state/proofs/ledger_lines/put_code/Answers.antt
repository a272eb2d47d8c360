use Rattle.std.proofs.Common.{ap}
use Rattle.hex.specs.Hex.{encode_lower}
use Rattle.dms_text_filling.proofs.Parts.{same}
use Rattle.dms_centre_state.proofs.ledger_lines.put_code.Goals as goal

pub returns : goal.returns
returns c =
    same (ap encode_lower c.to_bytes.ensures) c.put_digits.ensures.octets
