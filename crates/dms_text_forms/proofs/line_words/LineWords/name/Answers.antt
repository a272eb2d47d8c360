use Rattle.dms_text_forms.proofs.LineLaws.{name_taken}
use Rattle.dms_text_forms.proofs.line_words.LineWords.name.Goals as goal

pub returns-clause-takes : goal.returns-clause-takes
returns-clause-takes c = name_taken c.args.name c.args.self c.in_ok-word.rest c.in_ok-word.word.now c.in_ok-word.ensures.found c.in_ok-word.ensures.place
