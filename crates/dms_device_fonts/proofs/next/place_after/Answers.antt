use Rattle.std.proofs.Common.{sym, ap, ◌∙◌}
use Rattle.std.specs.Prelude.{option_map}
use Rattle.dms_device_fonts.specs.Tree.{tree_after, under}
use Rattle.dms_device_fonts.specs.Fonts.{font_objects, fonts_node}
use Rattle.dms_device_fonts.specs.View.{placed}
use Rattle.dms_device_fonts.proofs.Choices.{places_below}
use Rattle.dms_device_fonts.proofs.next.place_after.Goals as goal

pub returns-in-Before-clause-place : goal.returns-in-Before-clause-place
returns-in-Before-clause-place c =
    let tree = font_objects c.args.fonts.now in
    places_below fonts_node c.args.fonts.now c.first_place.result ∙ ap (option_map (placed fonts_node)) c.first_place.ensures.place
    ∙ sym (c.in-Before.ensures.after tree) ∙ ap (tree_after (under fonts_node tree)) c.numbers.ensures.walk

pub returns-in-Under-clause-place : goal.returns-in-Under-clause-place
returns-in-Under-clause-place c =
    let tree = font_objects c.args.fonts.now in
    places_below fonts_node c.args.fonts.now c.instance_after.result ∙ ap (option_map (placed fonts_node)) c.instance_after.ensures.place
    ∙ sym (c.in-Under.ensures.after tree) ∙ ap (tree_after (under fonts_node tree)) c.numbers.ensures.walk

pub returns-in-After-clause-place : goal.returns-in-After-clause-place
returns-in-After-clause-place c =
    let tree = font_objects c.args.fonts.now in
    sym (c.in-After.ensures.after tree) ∙ ap (tree_after (under fonts_node tree)) c.numbers.ensures.walk
