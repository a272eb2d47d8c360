use Rattle.dms_replay.proofs.ScriptRead.{one_script}
use Rattle.dms_replay.proofs.laws.a_text_spells_at_most_one_script.Goals as goal

pub returns : goal.returns
returns c = one_script
