use Rattle.std.proofs.Common.{sym, ◌∙◌}
use Rattle.dms_device_fonts.specs.Fonts.{character_leaf}
use Rattle.dms_device_fonts.proofs.ends.glyph_after.Goals as goal

pub returns-in-First : goal.returns-in-First
returns-in-First c = λ column index. c.least_glyph.ensures column ∙ sym (c.in-First.ensures.after (character_leaf c.args.font.now column))

pub returns-in-Inside : goal.returns-in-Inside
returns-in-Inside c = λ column index. c.least_glyph-in-Inside.ensures column ∙ sym (c.in-Inside.ensures.after (character_leaf c.args.font.now column))

pub returns-in-Past : goal.returns-in-Past
returns-in-Past c = λ column index. sym (c.in-Past.ensures.after (character_leaf c.args.font.now column))
