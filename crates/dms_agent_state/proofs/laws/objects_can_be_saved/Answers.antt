use Rattle.dms_agent_state.proofs.Kept.{made_kept, published_kept, withdrawn_kept, told_kept, first_told_kept, written_kept}
use Rattle.dms_agent_state.proofs.ReadLimits.{values_within}
use Rattle.dms_agent_state.proofs.laws.objects_can_be_saved.Goals as goal

pub returns-clause-made : goal.returns-clause-made
returns-clause-made c = made_kept

pub returns-clause-published : goal.returns-clause-published
returns-clause-published c = published_kept

pub returns-clause-withdrawn : goal.returns-clause-withdrawn
returns-clause-withdrawn c = withdrawn_kept

pub returns-clause-told : goal.returns-clause-told
returns-clause-told c = told_kept

pub returns-clause-first_told : goal.returns-clause-first_told
returns-clause-first_told c = first_told_kept

pub returns-clause-put_back : goal.returns-clause-put_back
returns-clause-put_back c = written_kept

pub returns-clause-read : goal.returns-clause-read
returns-clause-read c = values_within
