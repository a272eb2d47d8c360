-- What is printed of the items of a text (this profile).
use Rattle.std.specs.Prelude.{ℕ, List, [], ◌∷◌, ◌++◌, codes, decimal, Option, Some, None, Result, Ok, Err}
use Rattle.dms_multi.specs.Fault.{code_number}
use Rattle.dms_multi.specs.Outcomes.{outcomes_of, fault_in}
use Rattle.dms_multi.specs.declared.fault.SyntaxFault.{SyntaxFault}
use Rattle.dms_multi.specs.declared.item.Item.{Item}
use Rattle.dms_multi.specs.declared.item.Item.TheVariants.{Char, Background, Foreground, Font, FlashOn, FlashEnd}
use Rattle.dms_multi.specs.declared.item.Item.TheVariants.{JustLine, JustPage, NewLine, NewPage, PageTime}
use Rattle.dms_multi.specs.declared.item.Lead.{Lead}
use Rattle.dms_multi.specs.declared.item.Lead.TheVariants.{Lit, Dark}
use Rattle.dms_multi.specs.declared.spots.Spot.{Spot}
use Rattle.signtool_print.specs.Printed.{Answer, answer}
use Rattle.signtool_print.specs.TextAnswers.{fault_line}
use Rattle.signtool_print.specs.declared.statuses.ExitStatus.{ExitStatus}
use Rattle.signtool_print.specs.declared.statuses.ExitStatus.TheVariants.{Done, Refused}

-- ---- an item

-- the name of a flash by the time that comes first
abbrev pub flash_name : Lead → List ℕ
flash_name Lit = codes "flash lit"
flash_name Dark = codes "flash dark"

abbrev pub item_name : Item → List ℕ
item_name (Char character) = codes "character"
item_name (Background colour) = codes "background"
item_name (Foreground colour) = codes "foreground"
item_name (Font font) = codes "font"
item_name (FlashOn first lit dark) = flash_name first
item_name FlashEnd = codes "end of flash"
item_name (JustLine side) = codes "line"
item_name (JustPage part) = codes "page"
item_name (NewLine gap) = codes "new line"
item_name NewPage = codes "new page"
item_name (PageTime lit dark) = codes "page time"

-- a value, or that it is the sign's
abbrev pub value_text : Option ℕ → List ℕ
value_text None = codes " default"
value_text (Some value) = codes " " ++ decimal value

abbrev pub font_number : Option (ℕ × Option ℕ) → Option ℕ
font_number None = None
font_number (Some font) = Some font.0

-- the values of an item, in turn
abbrev pub values_text : Item → List ℕ
values_text (Char character) = value_text (Some character)
values_text (Background colour) = value_text colour
values_text (Foreground colour) = value_text colour
values_text (Font font) = value_text (font_number font)
values_text (FlashOn first lit dark) = value_text lit ++ value_text dark
values_text FlashEnd = []
values_text (JustLine side) = value_text side
values_text (JustPage part) = value_text part
values_text (NewLine gap) = value_text gap
values_text NewPage = []
values_text (PageTime lit dark) = value_text lit ++ value_text dark

-- the version of a font, where its tag has one
abbrev pub font_version : Option (ℕ × Option ℕ) → Option ℕ
font_version None = None
font_version (Some font) = font.1

abbrev pub item_version : Item → Option ℕ
item_version (Char character) = None
item_version (Background colour) = None
item_version (Foreground colour) = None
item_version (Font font) = font_version font
item_version (FlashOn first lit dark) = None
item_version FlashEnd = None
item_version (JustLine side) = None
item_version (JustPage part) = None
item_version (NewLine gap) = None
item_version NewPage = None
item_version (PageTime lit dark) = None

abbrev pub version_text : Option ℕ → List ℕ
version_text None = []
version_text (Some version) = codes " version " ++ decimal version

-- the offset of an item, what it is, its values, and the version of a font
abbrev pub item_line : Spot → List ℕ
item_line spot = (decimal spot.first ++ codes " " ++ item_name spot.item) ++ values_text spot.item
    ++ (version_text (item_version spot.item) ++ codes "\n")

-- ---- a text

-- the items before the fault, a line each, and then the fault
abbrev pub item_lines : List (Result Spot SyntaxFault) → List ℕ
item_lines [] = []
item_lines (Ok spot ∷ more) = item_line spot ++ item_lines more
item_lines (Err fault ∷ more) = fault_line (code_number fault.code) fault.place

-- a text that has a fault is refused
abbrev pub status_by : Option SyntaxFault → ExitStatus
status_by None = Done
status_by (Some fault) = Refused

-- of `items`
abbrev pub items_answer : List ℕ → Answer
items_answer text = answer (status_by (fault_in (outcomes_of text))) (item_lines (outcomes_of text))
