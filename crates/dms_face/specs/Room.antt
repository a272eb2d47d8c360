-- How much room characters and lines take, and where each begins (NTCIP 1203, MULTI).
use Rattle.std.specs.Prelude.{ℕ, ◌+◌, ◌-◌, ◌/◌, ◌&&◌, Bool, true, not, if◌then◌else◌, List, []}
use Rattle.std.specs.Prelude.{◌∷◌, map, filter, fold, max, min, None, unwrap_or, nat_lt, nat_le}
use Rattle.std.specs.List.{list_any, list_all, flat_map}
use Rattle.dms_face.specs.declared.justification.Place.{Place}
use Rattle.dms_face.specs.declared.justification.Place.TheVariants.{Start, Halfway, End}
use Rattle.dms_face.specs.declared.room.Block.{Block}
use Rattle.dms_face.specs.Justification.{place_of_side, place_of_part, same_place}
use Rattle.dms_face_font.specs.Font.{FontModel}
use Rattle.dms_face.specs.Face.{FaceModel}
use Rattle.dms_face.specs.Layout.{Character, Line, PageModel, Layout, is_blank, standing}

-- ---- blocks in a row

-- of two numbers, rounded up
abbrev pub average : ℕ → ℕ → ℕ
average a b = (a + b + 1) / 2

-- the gap between neighbours: that of the tag before the second, else the average of their spacings
abbrev pub gap_between : Block → Block → ℕ
gap_between a b = unwrap_or b.gap (average a.spacing b.spacing)

-- how much room blocks in a row take: their sizes, and the gaps between neighbours
abbrev pub extent : List Block → ℕ
extent [] = 0
extent (a ∷ []) = a.size
extent (a ∷ b ∷ rest) = a.size + gap_between a b + extent (b ∷ rest)

-- things in a row, each with the point where it begins
abbrev pub placed_from : {A : Type 0} → (A → Block) → ℕ → List A → List (ℕ × A)
placed_from block start [] = []
placed_from block start (x ∷ []) = (start, x) ∷ []
placed_from block start (x ∷ y ∷ rest) =
    (start, x) ∷ placed_from block (start + (block x).size + gap_between (block x) (block y)) (y ∷ rest)

-- a character in its line: its side, its picture's width, the spacing of its font
abbrev pub character_block : Character → Block
character_block character = record {
  place = place_of_side character.style.side;
  size = character.glyph.width;
  spacing = character.style.font.character_spacing;
  gap = None;
}

-- the greatest number of a line's fonts; without a character that of the font at its end
abbrev pub greatest : (FontModel → ℕ) → Line → ℕ
greatest of_font line =
    if is_blank line.characters then of_font line.font
    else fold max 0 (map (λ (character : Character). of_font character.style.font) line.characters)

abbrev pub line_height : Line → ℕ
line_height line = greatest (λ (font : FontModel). font.height) line

-- a line on its page: its part, its height, the greatest spacing of its fonts, the gap of its tag
abbrev pub line_block : Line → Block
line_block line = record {
  place = place_of_part line.part;
  size = line_height line;
  spacing = greatest (λ (font : FontModel). font.line_spacing) line;
  gap = line.gap;
}

-- ---- blocks at three places

abbrev pub is_at : Place → Block → Bool
is_at place block = same_place block.place place

-- the blocks of one place, in order
abbrev pub at_place : Place → List Block → List Block
at_place place blocks = filter (is_at place) blocks

-- the room that the blocks of one place take
abbrev pub extent_at : Place → List Block → ℕ
extent_at place blocks = extent (at_place place blocks)

-- left and top begin at 0; right and bottom end at the end; centre and middle stand halfway, rounded down
abbrev pub begin : Place → ℕ → ℕ → ℕ
begin Start whole size = 0
begin Halfway whole size = (whole - size) / 2
begin End whole size = whole - size

abbrev pub places : List Place
places = Start ∷ Halfway ∷ End ∷ []

-- the things of all places, each with the point where it begins
abbrev pub spread : {A : Type 0} → (A → Block) → ℕ → List A → List (ℕ × A)
spread block whole xs = flat_map (λ place. placed_from block (begin place whole (extent_at place (map block xs)))
    (filter (λ x. is_at place (block x)) xs)) places

-- ---- whether there is room

-- where something begins, and its size
pub record Span : Type 0 where
  pub first : ℕ
  pub size : ℕ

-- something of a size at a place
abbrev pub span : ℕ → Place → ℕ → Span
span whole place size = record { first = begin place whole size; size = size }

-- they have a point in common
abbrev pub overlap : Span → Span → Bool
overlap a b = nat_lt (max a.first b.first) (min (a.first + a.size) (b.first + b.size))

-- nothing is larger than the whole, and no two overlap
abbrev pub have_room : ℕ → List Span → Bool
have_room whole [] = true
have_room whole (a ∷ rest) = nat_le a.size whole && not (list_any (overlap a) rest) && have_room whole rest

-- the blocks of the three places have room beside each other
abbrev pub blocks_fit : ℕ → List Block → Bool
blocks_fit whole blocks = have_room whole (map (λ place. span whole place (extent_at place blocks)) places)

abbrev pub characters_fit : FaceModel → List Character → Bool
characters_fit face characters = blocks_fit face.width (map character_block characters)

abbrev pub lines_fit : FaceModel → List Line → Bool
lines_fit face lines = blocks_fit face.height (map line_block lines)

abbrev pub page_fits : FaceModel → List Line → Bool
page_fits face lines = list_all (λ (line : Line). characters_fit face line.characters) lines && lines_fit face lines

-- every page has room for its lines, and every line for its characters, those of the open page included
abbrev pub has_room : FaceModel → Layout → Bool
has_room face layout = list_all (λ (page : PageModel). page_fits face page.lines) layout.pages
    && page_fits face (standing layout)
