use Rattle.dms_sign_text.proofs.DescriptionLaws.{one_sign}
use Rattle.dms_sign_text.proofs.laws.lines_spell_at_most_one_sign.Goals as goal

pub returns : goal.returns
returns c = one_sign
