use Rattle.dms_sign_lines.proofs.GoodTexts.{good_as_made, good_after_line}
use Rattle.dms_sign_lines.proofs.laws.signs_show_good_texts.Goals as goal

pub returns-clause-made : goal.returns-clause-made
returns-clause-made c = good_as_made

pub returns-clause-line : goal.returns-clause-line
returns-clause-line c = good_after_line
