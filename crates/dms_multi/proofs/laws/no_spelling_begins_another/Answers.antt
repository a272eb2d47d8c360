use Rattle.dms_multi.proofs.ItemLaws.{begins_none}
use Rattle.dms_multi.proofs.laws.no_spelling_begins_another.Goals as goal

pub returns : goal.returns
returns c = begins_none
