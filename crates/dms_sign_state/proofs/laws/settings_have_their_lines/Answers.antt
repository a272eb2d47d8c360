use Rattle.dms_sign_state.proofs.LineCounts.{lines_of_settings}
use Rattle.dms_sign_state.proofs.laws.settings_have_their_lines.Goals as goal

pub returns : goal.returns
returns c = lines_of_settings
