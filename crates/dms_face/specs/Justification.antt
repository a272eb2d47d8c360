-- Where characters stand in their line and lines on their page, and the numbers by which the markup names both (NTCIP
-- 1203, defaultJustificationLine and defaultJustificationPage).
use Rattle.std.specs.Prelude.{ℕ, ◌==◌, Bool, if◌then◌else◌}
use Rattle.dms_face.specs.declared.justification.Side.{Side}
use Rattle.dms_face.specs.declared.justification.Side.TheVariants.{Left, Centre, Right}
use Rattle.dms_face.specs.declared.justification.Part.{Part}
use Rattle.dms_face.specs.declared.justification.Part.TheVariants.{Top, Middle, Bottom}
use Rattle.dms_face.specs.declared.justification.Place.{Place}
use Rattle.dms_face.specs.declared.justification.Place.TheVariants.{Start, Halfway, End}

-- left 2, centre 3; 4 and every other number is right
abbrev pub side_of : ℕ → Side
side_of number = if number == 2 then Left else if number == 3 then Centre else Right

-- top 2, middle 3; 4 and every other number is bottom
abbrev pub part_of : ℕ → Part
part_of number = if number == 2 then Top else if number == 3 then Middle else Bottom

-- a side of a line as a place of a whole
abbrev pub place_of_side : Side → Place
place_of_side Left = Start
place_of_side Centre = Halfway
place_of_side Right = End

-- a part of a page as a place of a whole
abbrev pub place_of_part : Part → Place
place_of_part Top = Start
place_of_part Middle = Halfway
place_of_part Bottom = End

-- places in their order
abbrev pub rank : Place → ℕ
rank Start = 0
rank Halfway = 1
rank End = 2

abbrev pub same_place : Place → Place → Bool
same_place a b = rank a == rank b

abbrev pub same_part : Part → Part → Bool
same_part a b = same_place (place_of_part a) (place_of_part b)
