use Rattle.std.proofs.Common.{arith, ap}
use Rattle.std.specs.Prelude.{decimal, codes, ◌++◌}
use Rattle.dms_text_filling.proofs.Parts.{five, same}
use Rattle.dms_agent_state.proofs.Filled.{address_text}
use Rattle.dms_agent_state.proofs.words.put_address.Goals as goal

pub returns : goal.returns
returns c =
    same (address_text c.args.address (omega arith))
    (five c.put_text-place.ensures.octets c.put_decimal-place.ensures.octets (same (ap (λ n. codes "." ++ decimal n) c.from.ensures) c.put_dot-place.ensures)
    (same (ap (λ n. codes "." ++ decimal n) c.from-2.ensures) c.put_dot-place-2.ensures)
    (same (ap (λ n. codes "." ++ decimal n) c.from-3.ensures) c.put_dot.ensures))
