use Rattle.dms_device_fonts.specs.Tree.{under}
use Rattle.dms_device_fonts.specs.Fonts.{fonts_value, fonts_after, fonts_node, font_objects}
use Rattle.dms_device_fonts.proofs.TreeWalks.{tree_walk}
use Rattle.dms_device_fonts.proofs.laws.fonts_are_walked.Goals as goal

pub returns : goal.returns
unfolding fonts_value fonts_after
returns c = λ face. tree_walk (under fonts_node (font_objects face.fonts))
