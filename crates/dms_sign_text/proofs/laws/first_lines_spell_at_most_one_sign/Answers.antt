use Rattle.dms_sign_text.proofs.DescriptionLaws.{one_prefix}
use Rattle.dms_sign_text.proofs.laws.first_lines_spell_at_most_one_sign.Goals as goal

pub returns : goal.returns
returns c = one_prefix
