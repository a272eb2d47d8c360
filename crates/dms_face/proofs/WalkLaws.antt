-- One walk over the items of a text gives what each of its fronts gives, laid out by itself.
use Rattle.std.proofs.Common.{◌≡◌, ℕ, ◌+◌, ◌≤◌, Bool, true, false, ◌&&◌, cond, List, [], ◌∷◌, ◌++◌, fold, length, map, nat_le, nat_lt, Option, Some, None, is_none, unwrap_or, Result, Ok, Err, refl, ap, sym, ◌∙◌, arith, zero-add, add-zero, length-append, ◌<◌}
use Rattle.std.specs.List.{count_by}
use Rattle.std.proofs.lemmas.Bool.Decides.{nat_tests}
use Rattle.std.specs.Option.{option_or, option_map}
use Rattle.std.proofs.lemmas.List.Sums.{fold-append, sum_by-cons}
use Rattle.std.proofs.Math.Bool.{and-true}
use Rattle.dms_multi.specs.declared.item.Item.{Item}
use Rattle.dms_multi.specs.declared.item.Item.TheVariants.{Char, Background, Foreground, Font, FlashOn, FlashEnd, JustLine, JustPage, NewLine, NewPage, PageTime}
use Rattle.dms_multi.specs.declared.spots.Spot.{Spot}
use Rattle.dms_multi.specs.declared.fault.SyntaxFault.{SyntaxFault}
use Rattle.dms_multi.specs.Outcomes.{outcomes_of, fault_in, items_in}
use Rattle.dms_codes.specs.Limits.{longest_text}
use Rattle.dms_face.specs.declared.multi_fault.MultiFault.{MultiFault}
use Rattle.dms_face.specs.declared.multi_fault.MultiFaultCode.{MultiFaultCode}
use Rattle.dms_face.specs.declared.multi_fault.MultiFaultCode.TheVariants.{TextTooBig, CharacterNotDefined, TagConflict, TooManyPages}
use Rattle.dms_face.specs.FaultCode.{syntax_fault}
use Rattle.dms_face_font.specs.Glyph.{GlyphModel}
use Rattle.dms_face_font.specs.Font.{glyph_of}
use Rattle.dms_face.specs.Face.{FaceModel}
use Rattle.dms_face.specs.Justification.{part_of, place_of_part, same_part}
use Rattle.dms_face.specs.Layout.{Layout, Style, Turn, styled, closed, with_character, with_page, with_item, with_turn, blank_layout, layout_of}
use Rattle.dms_face.specs.Room.{line_block, lines_fit, has_room}
use Rattle.dms_face.specs.Fit.{misuse, is_taken, are_allowed, fits, most_pages, code_of, turns_in, first_fault, fault_of_reading, fault_of, page_count, checked_text, is_new_page, or_fault}
use Rattle.dms_face.specs.OnePass.{room_fault, character_fault, local_fault, or_else, walked}
use Rattle.dms_face.proofs.Bools.{both, and_assoc}
use Rattle.dms_face.proofs.RoomLaws.{RoomParts, room_parts, room_is_open, line_room, part_room, page_room, style_room, nothing_fits}

-- ---- one turn

-- the fault of a turn: its misuse, else want of room
abbrev pub fault_by : Option MultiFaultCode → Bool → Option MultiFaultCode
fault_by misused room = cond (is_none misused && room) None (Some (unwrap_or misused TextTooBig))

-- a turn that changes no room
no_room_wanted : (misused : Option MultiFaultCode) (room : Bool) → room ≡ true → misused ≡ fault_by misused room
no_room_wanted misused room is = grind arith

character_law : (face : FaceModel) (layout : Layout) (glyph : Option GlyphModel) → RoomParts face layout
    → character_fault face layout glyph ≡ fault_by (cond (is_none glyph) (Some CharacterNotDefined) None) (has_room face (with_character layout glyph))
character_law face layout glyph parts = grind (arith, room_is_open)

part_cases : (face : FaceModel) (layout there : Layout) (same taken room : Bool) → has_room face layout ≡ true → has_room face there ≡ room
    → cond same None (cond taken (Some TagConflict) (room_fault room))
    ≡ fault_by (cond same None (cond taken (Some TagConflict) None)) (has_room face (cond same layout there))
part_cases face layout there same taken room before after = grind arith

page_cases : (most room after : Bool) → after ≡ room
    → cond room (cond most (Some TooManyPages) None) (Some TextTooBig)
    ≡ cond (is_none (cond most (Some TooManyPages) None) && after) None (Some (cond after TooManyPages TextTooBig))
page_cases most room after is = grind arith

-- an item that changes the style alone, and not the part
style_law : (face : FaceModel) (layout : Layout) (style : Style) (misused : Option MultiFaultCode) → style.part ≡ layout.style.part → RoomParts face layout
    → misused ≡ fault_by misused (has_room face (record layout { style = style }))
style_law face layout style misused same parts = no_room_wanted misused _ (style_room face layout style same parts)

turn_law : (face : FaceModel) (layout : Layout) (turn : Turn) → has_room face layout ≡ true → RoomParts face layout
    → local_fault face layout turn ≡ cond (is_none (misuse face layout turn) && has_room face (with_turn face layout turn)) None (Some (code_of face layout turn))
turn_law face layout None room parts = ap room_fault (sym (page_room face layout parts))
turn_law face layout (Some (Char character)) room parts = character_law face layout (glyph_of layout.style.font character) parts
turn_law face layout (Some (NewLine gap)) room parts = ap room_fault (sym (line_room face layout gap parts))
turn_law face layout (Some NewPage) room parts = page_cases (nat_le most_pages (length layout.pages + 1)) (lines_fit face (closed layout)) (has_room face (with_page layout)) (page_room face layout parts)
turn_law face layout (Some (JustPage part)) room parts =
    part_cases face layout (record { pages = layout.pages; lines = closed layout; characters = []; gap = None; style = styled face layout.style (JustPage part) })
    (same_part (part_of (unwrap_or part face.defaults.page)) layout.style.part) (is_taken (place_of_part (part_of (unwrap_or part face.defaults.page))) (map line_block (closed layout))) (lines_fit face (closed layout)) room
    (part_room face layout (styled face layout.style (JustPage part)) parts)
turn_law face layout (Some (JustLine side)) room parts = style_law face layout (styled face layout.style (JustLine side)) (misuse face layout (Some (JustLine side))) refl parts
turn_law face layout (Some (Font None)) room parts = style_law face layout (styled face layout.style (Font None)) None refl parts
turn_law face layout (Some (Font (Some wanted))) room parts = style_law face layout (styled face layout.style (Font (Some wanted))) (misuse face layout (Some (Font (Some wanted)))) refl parts
turn_law face layout (Some (Background colour)) room parts = style_law face layout (styled face layout.style (Background colour)) None refl parts
turn_law face layout (Some (Foreground colour)) room parts = style_law face layout (styled face layout.style (Foreground colour)) None refl parts
turn_law face layout (Some (FlashOn first lit dark)) room parts = style_law face layout (styled face layout.style (FlashOn first lit dark)) None refl parts
turn_law face layout (Some FlashEnd) room parts = style_law face layout (styled face layout.style FlashEnd) None refl parts
turn_law face layout (Some (PageTime on off)) room parts = style_law face layout (styled face layout.style (PageTime on off)) None refl parts

-- ---- fronts

allowed_push : (face : FaceModel) (layout : Layout) (front : List Turn) (turn : Turn)
    → are_allowed face layout (front ++ turn ∷ []) ≡ (are_allowed face layout front && is_none (misuse face (fold (with_turn face) layout front) turn))
allowed_push face layout [] turn = and-true (is_none (misuse face layout turn))
allowed_push face layout (next ∷ front) turn = grind (arith, and-true, is_none, and_assoc, allowed_push face (with_turn face layout next) front turn)

pub layout_push : (face : FaceModel) (front : List Turn) (turn : Turn) → layout_of face (front ++ turn ∷ []) ≡ with_turn face (layout_of face front) turn
layout_push face front turn = fold-append (with_turn face) (blank_layout face) front (turn ∷ [])

fits_push : (face : FaceModel) (front : List Turn) (turn : Turn) → fits face front ≡ true
    → fits face (front ++ turn ∷ []) ≡ (is_none (misuse face (layout_of face front) turn) && has_room face (with_turn face (layout_of face front) turn))
fits_push face front turn fit = grind (arith, allowed_push, is_none, both, layout_push)

-- The open line and the open page alone decide whether one turn more fits, and its fault.
pub local_law : (face : FaceModel) (front : List Turn) (turn : Turn) → fits face front ≡ true
    → local_fault face (layout_of face front) turn ≡ cond (fits face (front ++ turn ∷ [])) None (Some (code_of face (layout_of face front) turn))
local_law face front turn fit = grind (arith, both, turn_law, room_parts, fits_push)

-- ---- texts

-- a new page is one page more
pages_with : (face : FaceModel) (layout : Layout) (item : Item) → length (with_item face layout item).pages ≡ cond (is_new_page item) 1 0 + length layout.pages
pages_with face layout item = grind (arith, length-append, zero-add, unwrap_or)

-- what is answered after a front, by the definitions
abbrev pub answered : FaceModel → ℕ → List Turn → List (Result Spot SyntaxFault) → Result ℕ MultiFault
answered face end front read =
    or_fault (count_by is_new_page (items_in read) + length (layout_of face front).pages + 1)
    (option_or (first_fault face front (turns_in end read)) (option_map syntax_fault (fault_in read)))

end_cases : (face : FaceModel) (end pages : ℕ) (fit : Bool) (code : MultiFaultCode)
    → or_else end (cond fit None (Some code)) (Ok (pages + 1)) ≡ or_fault (0 + pages + 1) (option_or (cond fit None (Some (record { code = code; place = end }))) None)
end_cases face end pages fit code = grind arith

-- the rest of a text after a front that fits
pub walked_law : (face : FaceModel) (end : ℕ) (front : List Turn) (read : List (Result Spot SyntaxFault)) → fits face front ≡ true
    → walked face end (layout_of face front) read ≡ answered face end front read
walked_law face end front [] fit =
    ap (λ o. or_else end o (Ok (length (layout_of face front).pages + 1))) (local_law face front None fit)
    ∙ end_cases face end (length (layout_of face front).pages) (fits face (front ++ None ∷ [])) (code_of face (layout_of face front) None)
walked_law face end front (Err fault ∷ more) fit = refl
walked_law face end front (Ok spot ∷ more) fit =
    let turn : Turn = Some spot.item in
    let code : MultiFaultCode = code_of face (layout_of face front) turn in
    let rest : Result ℕ MultiFault = walked face end (with_item face (layout_of face front) spot.item) more in
    let pages : ℕ = count_by is_new_page (spot.item ∷ items_in more) + length (layout_of face front).pages + 1 in
    let last : Option MultiFault = option_map syntax_fault (fault_in more) in
    let M : Bool → Type 0 = λ b. fits face (front ++ turn ∷ []) ≡ b
    → or_else spot.first (cond b None (Some code)) rest
    ≡ or_fault pages (option_or (cond b (first_fault face (front ++ turn ∷ []) (turns_in end more)) (Some (record { code = code; place = spot.first }))) last) in
    let same : length (layout_of face (front ++ turn ∷ [])).pages ≡ cond (is_new_page spot.item) 1 0 + length (layout_of face front).pages =
    ap (λ (layout : Layout). length layout.pages) (layout_push face front turn) ∙ pages_with face (layout_of face front) spot.item in
    let counted : count_by is_new_page (spot.item ∷ items_in more) ≡ cond (is_new_page spot.item) 1 0 + count_by is_new_page (items_in more) = sum_by-cons (λ item. cond (is_new_page item) 1 0) spot.item (items_in more) in
    let count : count_by is_new_page (items_in more) + length (layout_of face (front ++ turn ∷ [])).pages + 1 ≡ pages = omega arith in
    let fitting : fits face (front ++ turn ∷ []) ≡ true → rest ≡ or_fault pages (option_or (first_fault face (front ++ turn ∷ []) (turns_in end more)) last) =
    λ is. ap (λ layout. walked face end layout more) (sym (layout_push face front turn)) ∙ walked_law face end (front ++ turn ∷ []) more is
    ∙ ap (λ n. or_fault n (option_or (first_fault face (front ++ turn ∷ []) (turns_in end more)) last)) count in
    let go : (b : Bool) → M b = λ b. elim b as M [ true ↦ fitting | false ↦ λ is. refl ] in
    ap (λ o. or_else spot.first o rest) (local_law face front turn fit) ∙ go (fits face (front ++ turn ∷ [])) refl

-- nothing fits
pub none_fits : (face : FaceModel) → fits face [] ≡ true
none_fits face = nothing_fits face.height

-- the number of a text's pages, or its fault, by one walk
pub checked_walk : (face : FaceModel) (text : List ℕ) → length text ≤ longest_text
    → walked face (length text) (blank_layout face) (outcomes_of text) ≡ checked_text face text
unfolding fault_of page_count
checked_walk face text short =
    let few : nat_lt longest_text (length text) ≡ false = grind (arith, nat_tests) in
    walked_law face (length text) [] (outcomes_of text) (none_fits face)
    ∙ ap (λ n. or_fault (n + 1) (fault_of_reading face (length text) (outcomes_of text))) (add-zero _)
    ∙ ap (λ b. or_fault (count_by is_new_page (items_in (outcomes_of text)) + 1) (cond b (Some (record { code = TextTooBig; place = longest_text })) (fault_of_reading face (length text) (outcomes_of text)))) (sym few)

-- a text that is too long
pub checked_long : (face : FaceModel) (text : List ℕ) → longest_text < length text → Err (record { code = TextTooBig; place = longest_text }) ≡ checked_text face text
unfolding fault_of page_count
checked_long face text long = grind arith
