-- Where a page has a line.
use Rattle.std.proofs.Common.{◌≡◌, not, List, [], ◌∷◌, map, refl, arith}
use Rattle.dms_face.specs.declared.justification.Part.{Part}
use Rattle.dms_face.specs.Justification.{place_of_part}
use Rattle.dms_face.specs.Layout.{Character, Line, is_blank, has_line_in}
use Rattle.dms_face.specs.Room.{at_place, character_block, line_block}

-- a page has a line in a part where a block stands there
pub has_line : (part : Part) (lines : List Line) → has_line_in part lines ≡ not (is_blank (at_place (place_of_part part) (map line_block lines)))
has_line part [] = refl
has_line part (line ∷ lines) = grind (arith, has_line part lines)

pub blank_mapped : (characters : List Character) → is_blank (map character_block characters) ≡ is_blank characters
blank_mapped characters = grind arith
