use Rattle.std.proofs.Common.{map, not, ap, ◌∙◌}
use Rattle.dms_face.specs.Room.{character_block}
use Rattle.dms_face.proofs.PartLaws.{blank_mapped}
use Rattle.dms_face.proofs.totals.Totals.holds_character.Goals as goal

pub returns : goal.returns
returns c = λ layout matches. c.any.ensures (map character_block layout.characters) matches.characters ∙ ap not (blank_mapped layout.characters)
