use Rattle.std.proofs.Common.{ap, sym, ◌∙◌}
use Rattle.dms_device_fonts.specs.Tree.{tree_value, under}
use Rattle.dms_device_fonts.specs.Fonts.{font_objects, fonts_node}
use Rattle.dms_device_fonts.proofs.reading.read_name.Goals as goal

pub returns-in-Before : goal.returns-in-Before
returns-in-Before c = sym (c.in-Before.ensures.value (font_objects c.args.fonts.now)) ∙ ap (tree_value (under fonts_node (font_objects c.args.fonts.now))) c.numbers.ensures.walk

pub returns-in-Under : goal.returns-in-Under
returns-in-Under c =
    c.read.ensures ∙ sym (c.in-Under.ensures.value (font_objects c.args.fonts.now)) ∙ ap (tree_value (under fonts_node (font_objects c.args.fonts.now))) c.numbers.ensures.walk

pub returns-in-After : goal.returns-in-After
returns-in-After c = sym (c.in-After.ensures.value (font_objects c.args.fonts.now)) ∙ ap (tree_value (under fonts_node (font_objects c.args.fonts.now))) c.numbers.ensures.walk
