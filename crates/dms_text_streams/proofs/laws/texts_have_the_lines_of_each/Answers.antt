use Rattle.dms_text_streams.proofs.Journals.{lines-append}
use Rattle.dms_text_streams.proofs.laws.texts_have_the_lines_of_each.Goals as goal

pub returns : goal.returns
returns c = lines-append
