use Rattle.dms_multi.proofs.ItemLaws.{one_list}
use Rattle.dms_multi.proofs.laws.one_list.Goals as goal

pub returns : goal.returns
returns c = one_list
