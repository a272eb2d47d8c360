use Rattle.dms_replay.proofs.ScriptRead.{one_line}
use Rattle.dms_replay.proofs.laws.a_text_is_refused_for_at_most_one_line.Goals as goal

pub returns : goal.returns
returns c = one_line
