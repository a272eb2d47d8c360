use Rattle.dms_centre_lines.proofs.CallLaws.{one_call}
use Rattle.dms_centre_lines.proofs.laws.a_line_spells_at_most_one_call.Goals as goal

pub returns : goal.returns
returns c = one_call
