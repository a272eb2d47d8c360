use Rattle.std.proofs.Common.{Some, ap, ◌∙◌}
use Rattle.dms_device_fonts.specs.Tree.{tree_after, under}
use Rattle.dms_device_fonts.specs.Fonts.{fonts_after, fonts_node, font_objects}
use Rattle.dms_device_fonts.proofs.fonts.fonts_after.Goals as goal

pub returns-in-Some : goal.returns-in-Some
unfolding fonts_after
returns-in-Some c =
    ap Some c.next_at.ensures ∙ c.in-Some.ensures.place
    ∙ ap (λ fonts. tree_after (under fonts_node (font_objects fonts)) c.args.name.now) c.fonts-fonts.ensures
