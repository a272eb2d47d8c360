-- Which texts can be shown, and what is wrong with the others (NTCIP 1203, dmsMultiSyntaxError).
use Rattle.std.specs.Prelude.{ℕ, ◌+◌, ◌≤◌, ◌==◌, ◌&&◌, Bool, true, false, IsTrue}
use Rattle.std.specs.Prelude.{if◌then◌else◌, List, [], ◌∷◌, ◌++◌, length, take, map, Option}
use Rattle.std.specs.Prelude.{Some, None, is_none, unwrap_or, nat_lt, nat_le, Result, Ok, Err}
use Rattle.std.specs.List.{list_any, count_by}
use Rattle.std.specs.Option.{option_or, option_map}
use Rattle.dms_multi.specs.declared.item.Item.{Item}
use Rattle.dms_multi.specs.declared.item.Item.TheVariants.{Char, Font, JustLine, JustPage, NewPage}
use Rattle.dms_multi.specs.declared.spots.Spot.{Spot}
use Rattle.dms_multi.specs.declared.fault.SyntaxFault.{SyntaxFault}
use Rattle.dms_multi.specs.Grammar.{TextSpells}
use Rattle.dms_multi.specs.Outcomes.{outcomes_of, fault_in, items_in}
use Rattle.dms_face.specs.declared.justification.Place.{Place}
use Rattle.dms_face.specs.declared.room.Block.{Block}
use Rattle.dms_face.specs.declared.multi_fault.MultiFault.{MultiFault}
use Rattle.dms_face.specs.declared.multi_fault.MultiFaultCode.{MultiFaultCode}
use Rattle.dms_face.specs.declared.multi_fault.MultiFaultCode.TheVariants.{TextTooBig, FontNotDefined}
use Rattle.dms_face.specs.declared.multi_fault.MultiFaultCode.TheVariants.{CharacterNotDefined, TagConflict}
use Rattle.dms_face.specs.declared.multi_fault.MultiFaultCode.TheVariants.{TooManyPages, FontVersionId}
use Rattle.dms_codes.specs.Limits.{longest_text}
use Rattle.dms_face_font.specs.Font.{FontModel, glyph_of}
use Rattle.dms_face.specs.Face.{FaceModel, font_of}
use Rattle.dms_face.specs.FaultCode.{syntax_fault}
use Rattle.dms_face.specs.Justification.{side_of, part_of, place_of_side, place_of_part, rank, same_part}
use Rattle.dms_face.specs.Layout.{Layout, Turn, blank_layout, closed, with_turn, layout_of}
use Rattle.dms_face.specs.Room.{character_block, line_block, has_room}

-- ---- prefixes that fit

-- the fault of a wanted font; where a version is wanted, the font has to have it
abbrev pub font_fault : Option FontModel → Option ℕ → Option MultiFaultCode
font_fault None version = Some FontNotDefined
font_fault (Some font) None = None
font_fault (Some font) (Some version) = if font.version == version then None else Some FontVersionId

-- something stands already at a place after this one
abbrev pub goes_back : Place → List Block → Bool
goes_back place blocks = list_any (λ (block : Block). nat_lt (rank place) (rank block.place)) blocks

-- something stands already at this place or one after it
abbrev pub is_taken : Place → List Block → Bool
is_taken place blocks = list_any (λ (block : Block). nat_le (rank place) (rank block.place)) blocks

abbrev pub most_pages : ℕ
most_pages = 6

-- Why a turn may not stand after this layout, whatever room there is.
abbrev pub misuse : FaceModel → Layout → Turn → Option MultiFaultCode
misuse face layout (Some (Char character)) =
    if is_none (glyph_of layout.style.font character) then Some CharacterNotDefined else None
misuse face layout (Some (Font (Some wanted))) = font_fault (font_of face wanted.0) wanted.1
misuse face layout (Some (JustLine side)) =
    if goes_back (place_of_side (side_of (unwrap_or side face.defaults.line))) (map character_block layout.characters)
    then Some TagConflict
    else None
misuse face layout (Some (JustPage part)) =
    if same_part (part_of (unwrap_or part face.defaults.page)) layout.style.part then None
    else if is_taken (place_of_part (part_of (unwrap_or part face.defaults.page))) (map line_block (closed layout))
    then Some TagConflict else None
misuse face layout (Some NewPage) = if nat_le most_pages (length layout.pages + 1) then Some TooManyPages else None
misuse face layout turn = None

-- each turn may stand after those before it
abbrev pub are_allowed : FaceModel → Layout → List Turn → Bool
are_allowed face layout [] = true
are_allowed face layout (turn ∷ turns) =
    is_none (misuse face layout turn) && are_allowed face (with_turn face layout turn) turns

-- A prefix fits where each of its turns may stand after those before it, and all that stands then has room.
abbrev pub fits : FaceModel → List Turn → Bool
fits face front = are_allowed face (blank_layout face) front && has_room face (layout_of face front)

abbrev pub Fits : FaceModel → List Turn → Type 0
Fits face front = IsTrue (fits face front)

-- ---- good texts

-- items, and their end
abbrev pub turns_of : List Item → List Turn
turns_of items = map Some items ++ None ∷ []

-- A text is good where it is short enough and spells items of which every prefix fits, the one with the end included.
pub record IsGood (face : FaceModel) (text : List ℕ) : Type 0 where
  pub short : length text ≤ longest_text
  pub items : List Item
  pub spelled : TextSpells items text
  pub fit : (n : ℕ) → Fits face (take n (turns_of items))

-- ---- faults

-- the code of the last turn of a prefix that does not fit, where all before it stands so and fits
abbrev pub code_of : FaceModel → Layout → Turn → MultiFaultCode
code_of face layout (Some NewPage) =
    if has_room face (with_turn face layout (Some NewPage)) then TooManyPages else TextTooBig
code_of face layout turn = unwrap_or (misuse face layout turn) TextTooBig

-- a turn, and where it stands in the text
abbrev pub PlacedTurn : Type 0
PlacedTurn = Turn × ℕ

-- the turns of what a text is read as; after a fault of its grammar it has no end
abbrev pub turns_in : ℕ → List (Result Spot SyntaxFault) → List PlacedTurn
turns_in end [] = (None, end) ∷ []
turns_in end (Ok spot ∷ more) = (Some spot.item, spot.first) ∷ turns_in end more
turns_in end (Err fault ∷ more) = []

-- Of the prefixes that begin with this one, which fits, the shortest that does not fit: the fault of its last turn.
abbrev pub first_fault : FaceModel → List Turn → List PlacedTurn → Option MultiFault
first_fault face front [] = None
first_fault face front ((turn, place) ∷ more) =
    if fits face (front ++ turn ∷ []) then first_fault face (front ++ turn ∷ []) more
    else Some (record { code = code_of face (layout_of face front) turn; place = place })

-- the fault of a text of which this is read: of its prefixes, or else of its grammar
abbrev pub fault_of_reading : FaceModel → ℕ → List (Result Spot SyntaxFault) → Option MultiFault
fault_of_reading face end read =
    option_or (first_fault face [] (turns_in end read)) (option_map syntax_fault (fault_in read))

-- the fault of a text, or none
unfoldable pub fault_of : FaceModel → List ℕ → Option MultiFault
fault_of face text =
    if nat_lt longest_text (length text) then Some (record { code = TextTooBig; place = longest_text })
    else fault_of_reading face (length text) (outcomes_of text)

-- ---- the number of pages

abbrev pub is_new_page : Item → Bool
is_new_page NewPage = true
is_new_page _ = false

-- the pages of a text: one more than it has new pages
unfoldable pub page_count : List ℕ → ℕ
page_count text = count_by is_new_page (items_in (outcomes_of text)) + 1

abbrev pub or_fault : {A : Type 0} → A → Option MultiFault → Result A MultiFault
or_fault value None = Ok value
or_fault value (Some fault) = Err fault

-- the number of a text's pages, or its fault
abbrev pub checked_text : FaceModel → List ℕ → Result ℕ MultiFault
checked_text face text = or_fault (page_count text) (fault_of face text)
