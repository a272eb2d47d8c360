use Rattle.dms_multi.proofs.CanonicalLaws.{text_spelled}
use Rattle.dms_multi.proofs.laws.canonical_text_spells.Goals as goal

pub returns : goal.returns
returns c = text_spelled
