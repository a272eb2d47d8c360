use Rattle.dms_multi.proofs.ReadLaws.{items_read, items_spelled, fault_read}
use Rattle.dms_multi.proofs.laws.reading_follows_grammar.Goals as goal

pub returns : goal.returns
returns c = record { only = items_read; found = items_spelled; fault = fault_read }
