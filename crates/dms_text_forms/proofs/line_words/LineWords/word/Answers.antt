use Rattle.std.proofs.Common.{sym, ◌∙◌}
use Rattle.dms_text_forms.proofs.LineLaws.{other}
use Rattle.dms_text_forms.proofs.line_words.LineWords.word.Goals as goal

pub returns-else-is_wanted-clause-lacks : goal.returns-else-is_wanted-clause-lacks
returns-else-is_wanted-clause-lacks c =
    other c.args.wanted c.args.self c.fault.result c.in_ok-word.word.now c.in_ok-word.rest.words c.in_ok-word.ensures.found (sym c.is_wanted.ensures ∙ c.if-is_wanted.false) c.fault.ensures
