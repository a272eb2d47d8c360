-- One walk over the items of a text: whether a prefix of one turn more fits is known by the open line and the open page
-- alone (this profile).
use Rattle.std.specs.Prelude.{ℕ, ◌+◌, ◌&&◌, Bool, if◌then◌else◌, List, [], ◌∷◌, ◌++◌, length}
use Rattle.std.specs.Prelude.{map, Option, Some, None, unwrap_or, nat_le, Result, Ok, Err}
use Rattle.dms_multi.specs.declared.item.Item.TheVariants.{Char, JustPage, NewLine, NewPage}
use Rattle.dms_multi.specs.declared.spots.Spot.{Spot}
use Rattle.dms_multi.specs.declared.fault.SyntaxFault.{SyntaxFault}
use Rattle.dms_face.specs.declared.multi_fault.MultiFault.{MultiFault}
use Rattle.dms_face.specs.declared.multi_fault.MultiFaultCode.{MultiFaultCode}
use Rattle.dms_face.specs.declared.multi_fault.MultiFaultCode.TheVariants.{TextTooBig, CharacterNotDefined}
use Rattle.dms_face.specs.declared.multi_fault.MultiFaultCode.TheVariants.{TagConflict, TooManyPages}
use Rattle.dms_face.specs.declared.justification.Part.{Part}
use Rattle.dms_face.specs.FaultCode.{syntax_fault}
use Rattle.dms_face.specs.Justification.{part_of, place_of_part, same_part}
use Rattle.dms_face_font.specs.Glyph.{GlyphModel}
use Rattle.dms_face_font.specs.Font.{glyph_of}
use Rattle.dms_face.specs.Face.{FaceModel}
use Rattle.dms_face.specs.Layout.{Layout, Turn, standing, closed, open_line, with_character, with_item}
use Rattle.dms_face.specs.Room.{characters_fit, lines_fit, line_block}
use Rattle.dms_face.specs.Fit.{is_taken, misuse, most_pages}

abbrev pub room_fault : Bool → Option MultiFaultCode
room_fault fit = if fit then None else Some TextTooBig

-- the open line and the open page have room
abbrev pub open_fits : FaceModel → Layout → Bool
open_fits face layout = characters_fit face layout.characters && lines_fit face (standing layout)

abbrev pub character_fault : FaceModel → Layout → Option GlyphModel → Option MultiFaultCode
character_fault face layout None = Some CharacterNotDefined
character_fault face layout (Some glyph) = room_fault (open_fits face (with_character layout (Some glyph)))

abbrev pub page_fault : FaceModel → Layout → Option MultiFaultCode
page_fault face layout =
    if lines_fit face (closed layout)
    then (if nat_le most_pages (length layout.pages + 1) then Some TooManyPages else None)
    else Some TextTooBig

abbrev pub part_fault : FaceModel → Layout → Part → Option MultiFaultCode
part_fault face layout part =
    if same_part part layout.style.part then None
    else if is_taken (place_of_part part) (map line_block (closed layout)) then Some TagConflict
    else room_fault (lines_fit face (closed layout))

-- The fault of a turn after a prefix that fits. What is closed has room, and keeps it.
abbrev pub local_fault : FaceModel → Layout → Turn → Option MultiFaultCode
local_fault face layout None = room_fault (lines_fit face (closed layout))
local_fault face layout (Some (Char character)) = character_fault face layout (glyph_of layout.style.font character)
local_fault face layout (Some (NewLine gap)) = room_fault (lines_fit face (layout.lines ++ open_line layout ∷ []))
local_fault face layout (Some NewPage) = page_fault face layout
local_fault face layout (Some (JustPage part)) = part_fault face layout (part_of (unwrap_or part face.defaults.page))
local_fault face layout (Some item) = misuse face layout (Some item)

-- what is answered at a turn: its fault, or what follows
abbrev pub or_else : {A : Type 0} → ℕ → Option MultiFaultCode → Result A MultiFault → Result A MultiFault
or_else place None more = more
or_else place (Some code) more = Err (record { code = code; place = place })

-- What is answered for the rest of a text after a layout that fits: the number of pages, or the fault.
abbrev pub walked : FaceModel → ℕ → Layout → List (Result Spot SyntaxFault) → Result ℕ MultiFault
walked face end layout [] = or_else end (local_fault face layout None) (Ok (length layout.pages + 1))
walked face end layout (Ok spot ∷ more) = or_else spot.first (local_fault face layout (Some spot.item))
    (walked face end (with_item face layout spot.item) more)
walked face end layout (Err fault ∷ more) = Err (syntax_fault fault)
