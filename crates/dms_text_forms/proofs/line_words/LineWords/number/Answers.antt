use Rattle.std.proofs.Common.{◌≡◌, None, arith}
use Rattle.dms_text_forms.specs.LineReading.{number_within}
use Rattle.dms_text_forms.proofs.LineLaws.{two_other}
use Rattle.dms_text_forms.proofs.line_words.LineWords.number.Goals as goal

pub returns-in-None-clause-lacks : goal.returns-in-None-clause-lacks
returns-in-None-clause-lacks c =
    let none : number_within 5 c.args.low c.args.high c.in_ok-word.word.now ≡ None = grind (arith, c.in-None.ensures.value, c.from.ensures, c.from-2.ensures) in
    two_other c.args.self c.fault.result c.in_ok-word.word.now c.in_ok-word.rest.words c.args.low c.args.high c.in_ok-word.ensures.found none c.fault.ensures
