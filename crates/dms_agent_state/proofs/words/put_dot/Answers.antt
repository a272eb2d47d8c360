use Rattle.dms_text_filling.proofs.Parts.{two}
use Rattle.dms_agent_state.proofs.words.put_dot.Goals as goal

pub returns : goal.returns
returns c = two c.put_text-place.ensures.octets c.put_decimal.ensures.octets
