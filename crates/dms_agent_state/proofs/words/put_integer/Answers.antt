use Rattle.std.proofs.Common.{ap, w64}
use Rattle.std.specs.Fmt.{signed_decimal}
use Rattle.std.proofs.lemmas.Int.{to_z-of_z}
use Rattle.dms_text_filling.proofs.Parts.{two, same}
use Rattle.dms_agent_state.proofs.words.put_integer.Goals as goal

pub returns : goal.returns
returns c =
    two c.put_text-place.ensures.octets (same (ap signed_decimal (to_z-of_z w64 c.args.number c.ranges.number)) c.put_decimal.ensures.octets)
