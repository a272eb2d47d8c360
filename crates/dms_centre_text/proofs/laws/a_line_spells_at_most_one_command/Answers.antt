use Rattle.dms_centre_text.proofs.CommandLaws.{one_command}
use Rattle.dms_centre_text.proofs.laws.a_line_spells_at_most_one_command.Goals as goal

pub returns : goal.returns
returns c = one_command
