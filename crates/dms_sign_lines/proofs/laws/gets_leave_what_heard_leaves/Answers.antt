use Rattle.dms_sign_lines.proofs.Gets.{get_leaves, none_leaves}
use Rattle.dms_sign_lines.proofs.laws.gets_leave_what_heard_leaves.Goals as goal

pub returns : goal.returns
returns c = record { answered = get_leaves; unanswered = none_leaves }
