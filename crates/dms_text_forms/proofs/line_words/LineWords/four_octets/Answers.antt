use Rattle.std.proofs.Common.{◌≡◌, None, arith}
use Rattle.dms_text_forms.specs.LineReading.{number_within}
use Rattle.dms_text_forms.proofs.LineLaws.{four_other}
use Rattle.dms_text_forms.proofs.line_words.LineWords.four_octets.Goals as goal

pub returns-in-None-clause-lacks : goal.returns-in-None-clause-lacks
returns-in-None-clause-lacks c =
    let none : number_within 10 0 4294967295 c.in_ok-word.word.now ≡ None = grind (arith, c.in-None.ensures.value) in
    four_other c.args.self c.fault.result c.in_ok-word.word.now c.in_ok-word.rest.words c.in_ok-word.ensures.found none c.fault.ensures
