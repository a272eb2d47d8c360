-- Behind a layout that has room, a turn's room is that of the open line and the open page alone.
use Rattle.std.proofs.Common.{◌≡◌, ℕ, Bool, true, false, ◌&&◌, not, cond, List, [], ◌∷◌, ◌++◌, Option, None, ap, ◌∙◌, arith}
use Rattle.std.specs.List.{list_all}
use Rattle.std.proofs.lemmas.List.Folds.{list_all-append}
use Rattle.std.proofs.lemmas.List.{map-append}
use Rattle.std.proofs.Math.Bool.{and-true}
use Rattle.dms_face.specs.declared.justification.Part.{Part}
use Rattle.dms_face_font.specs.Font.{FontModel}
use Rattle.dms_face.specs.Face.{FaceModel}
use Rattle.dms_face.specs.Layout.{Character, Line, PageModel, Layout, Style, is_blank, open_line, standing, closed, has_line_in, with_line, with_page}
use Rattle.dms_face.specs.Room.{blocks_fit, characters_fit, lines_fit, page_fits, has_room}
use Rattle.dms_face.specs.OnePass.{open_fits}
use Rattle.dms_face.proofs.Bools.{both, join}

-- nothing has room everywhere
pub nothing_fits : (whole : ℕ) → blocks_fit whole [] ≡ true
nothing_fits whole = grind arith

abbrev pub line_fits : FaceModel → Line → Bool
line_fits face line = characters_fit face line.characters

abbrev pub page_has_room : FaceModel → PageModel → Bool
page_has_room face page = page_fits face page.lines

all_push : {A : Type 0} (p : A → Bool) (xs : List A) (x : A) → list_all p xs ≡ true → list_all p (xs ++ x ∷ []) ≡ p x
all_push p xs x all = list_all-append p xs (x ∷ []) ∙ ap (λ b. b && (p x && true)) all ∙ and-true (p x)

-- the lines that stand fit where the closed ones do and the open one does
standing_fits : (face : FaceModel) (characters : List Character) (lines : List Line) (part : Part) (font : FontModel) (gap : Option ℕ)
    → list_all (line_fits face) lines ≡ true
    → list_all (line_fits face) (cond (is_blank characters) lines (lines ++ (record { characters = characters; part = part; font = font; gap = gap }) ∷ [])) ≡ characters_fit face characters
standing_fits face characters lines part font gap all = grind (arith, nothing_fits, all_push)

standing_parts : (face : FaceModel) (characters : List Character) (lines : List Line) (part : Part) (font : FontModel) (gap : Option ℕ)
    → list_all (line_fits face) (cond (is_blank characters) lines (lines ++ (record { characters = characters; part = part; font = font; gap = gap }) ∷ [])) ≡ true
    → (list_all (line_fits face) lines ≡ true) × (characters_fit face characters ≡ true)
standing_parts face characters lines part font gap all = grind (arith, nothing_fits, both, list_all-append, and-true)

-- what has room, part by part
pub record RoomParts (face : FaceModel) (layout : Layout) : Type 0 where
  pub pages : list_all (page_has_room face) layout.pages ≡ true
  pub lines : list_all (line_fits face) layout.lines ≡ true
  pub characters : characters_fit face layout.characters ≡ true
  pub standing_lines : lines_fit face (standing layout) ≡ true

pub room_parts : (face : FaceModel) (layout : Layout) → has_room face layout ≡ true → RoomParts face layout
room_parts face layout room =
    let outer = both (list_all (page_has_room face) layout.pages) (page_fits face (standing layout)) room in
    let inner = both (list_all (line_fits face) (standing layout)) (lines_fit face (standing layout)) outer.1 in
    let parts = standing_parts face layout.characters layout.lines layout.style.part layout.style.font layout.gap inner.0 in
    record { pages = outer.0; lines = parts.0; characters = parts.1; standing_lines = inner.1 }

-- Behind closed pages and lines that have room, the room is that of the open line and the open page.
pub room_is_open : (face : FaceModel) (layout : Layout) → list_all (page_has_room face) layout.pages ≡ true → list_all (line_fits face) layout.lines ≡ true
    → has_room face layout ≡ open_fits face layout
room_is_open face layout pages lines =
    ap (λ b. b && page_fits face (standing layout)) pages
    ∙ ap (λ b. b && lines_fit face (standing layout)) (standing_fits face layout.characters layout.lines layout.style.part layout.style.font layout.gap lines)

-- the lines of a page that is closed, or of a line that is, each have room
closing_fits : (face : FaceModel) (layout : Layout) (b : Bool) → RoomParts face layout → list_all (line_fits face) (cond b layout.lines (layout.lines ++ open_line layout ∷ [])) ≡ true
closing_fits face layout b parts = grind (arith, all_push)

pub closed_fits : (face : FaceModel) (layout : Layout) → RoomParts face layout → list_all (line_fits face) (closed layout) ≡ true
closed_fits face layout parts = closing_fits face layout (is_blank layout.characters && not (has_line_in layout.style.part layout.lines)) parts

-- a layout with these closed lines and an empty open line
blank_room : (face : FaceModel) (layout : Layout) (lines : List Line) (gap : Option ℕ) (style : Style) → RoomParts face layout → list_all (line_fits face) lines ≡ true
    → has_room face (record { pages = layout.pages; lines = lines; characters = []; gap = gap; style = style }) ≡ lines_fit face lines
blank_room face layout lines gap style parts all = grind arith

pub line_room : (face : FaceModel) (layout : Layout) (gap : Option ℕ) → RoomParts face layout → has_room face (with_line layout gap) ≡ lines_fit face (layout.lines ++ open_line layout ∷ [])
line_room face layout gap parts = blank_room face layout (layout.lines ++ open_line layout ∷ []) gap layout.style parts (closing_fits face layout false parts)

pub part_room : (face : FaceModel) (layout : Layout) (style : Style) → RoomParts face layout
    → has_room face (record { pages = layout.pages; lines = closed layout; characters = []; gap = None; style = style }) ≡ lines_fit face (closed layout)
part_room face layout style parts = blank_room face layout (closed layout) None style parts (closed_fits face layout parts)

pub page_room : (face : FaceModel) (layout : Layout) → RoomParts face layout → has_room face (with_page layout) ≡ lines_fit face (closed layout)
page_room face layout parts = grind (arith, nothing_fits, and-true, all_push, closed_fits)

-- the font of the style says nothing of a line that has characters
pub same_standing : (face : FaceModel) (characters : List Character) (lines : List Line) (part : Part) (font other : FontModel) (gap : Option ℕ)
    → lines_fit face (cond (is_blank characters) lines (lines ++ (record { characters = characters; part = part; font = font; gap = gap }) ∷ []))
    ≡ lines_fit face (cond (is_blank characters) lines (lines ++ (record { characters = characters; part = part; font = other; gap = gap }) ∷ []))
same_standing face characters lines part font other gap = grind (arith, map-append)

-- a change of style that leaves the part changes no room
pub style_room : (face : FaceModel) (layout : Layout) (style : Style) → style.part ≡ layout.style.part → RoomParts face layout → has_room face (record layout { style = style }) ≡ true
style_room face layout style same parts =
    let lines : lines_fit face (standing (record layout { style = style })) ≡ true =
    ap (λ part. lines_fit face (cond (is_blank layout.characters) layout.lines (layout.lines ++ (record { characters = layout.characters; part = part; font = style.font; gap = layout.gap }) ∷ []))) same
    ∙ same_standing face layout.characters layout.lines layout.style.part style.font layout.style.font layout.gap ∙ parts.standing_lines in
    room_is_open face (record layout { style = style }) parts.pages parts.lines ∙ join _ _ parts.characters lines
