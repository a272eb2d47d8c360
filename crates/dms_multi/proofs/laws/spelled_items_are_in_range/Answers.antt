use Rattle.dms_multi.proofs.ReadLaws.{items_within}
use Rattle.dms_multi.proofs.laws.spelled_items_are_in_range.Goals as goal

pub returns : goal.returns
returns c = items_within
