use Rattle.dms_mib_instances.proofs.InOrder.{next_is_first, named_back, named_is}
use Rattle.dms_mib_instances.proofs.laws.objects_in_order.Goals as goal

pub returns : goal.returns
returns c = record { next = next_is_first; named = named_back; found = named_is }
