-- Where the characters of a message stand: pages of lines of characters, as its items make them one by one (NTCIP 1203,
-- MULTI).
use Rattle.std.specs.Prelude.{ℕ, ◌&&◌, Bool, true, false, not, if◌then◌else◌, List}
use Rattle.std.specs.Prelude.{[], ◌∷◌, ◌++◌, fold, Option, Some, None, unwrap_or}
use Rattle.std.specs.List.{list_any}
use Rattle.dms_multi.specs.declared.item.Item.{Item}
use Rattle.dms_multi.specs.declared.item.Item.TheVariants.{Char, Background, Foreground, Font, FlashOn, FlashEnd}
use Rattle.dms_multi.specs.declared.item.Item.TheVariants.{JustLine, JustPage, NewLine, NewPage, PageTime}
use Rattle.dms_face.specs.declared.cell.Flash.{Flash}
use Rattle.dms_face.specs.declared.defaults.Defaults.{Defaults}
use Rattle.dms_face_font.specs.Glyph.{GlyphModel}
use Rattle.dms_face_font.specs.Font.{FontModel, glyph_of}
use Rattle.dms_face.specs.declared.justification.Side.{Side}
use Rattle.dms_face.specs.declared.justification.Part.{Part}
use Rattle.dms_face.specs.Justification.{side_of, part_of, same_part}
use Rattle.dms_face.specs.Face.{FaceModel, font_of}

-- this face with other defaults
abbrev pub under : FaceModel → Defaults → FaceModel
under face defaults = record face { defaults = defaults }

-- ---- what items say of all that follows them

-- The font, the colour and the flash of characters; their side of the line; the part of the page where lines stand; and
-- the page's background and times.
pub record Style : Type 0 where
  pub font : FontModel
  pub foreground : ℕ
  pub flash : Option Flash
  pub side : Side
  pub part : Part
  pub background : ℕ
  pub on : ℕ
  pub off : ℕ

-- stands where a face has no default font
abbrev pub no_font : FontModel
no_font = record { number = 0; height = 0; character_spacing = 0; line_spacing = 0; version = 0; glyphs = [] }

-- the style before the first item: the defaults
abbrev pub first_style : FaceModel → Style
first_style face = record {
  font = unwrap_or (font_of face face.defaults.font) no_font;
  foreground = face.defaults.foreground;
  flash = None;
  side = side_of face.defaults.line;
  part = part_of face.defaults.page;
  background = face.defaults.background;
  on = face.defaults.on;
  off = face.defaults.off;
}

-- the style after an item; a value that is missing is the default
abbrev pub styled : FaceModel → Style → Item → Style
styled face style (Background colour) = record style { background = unwrap_or colour face.defaults.background }
styled face style (Foreground colour) = record style { foreground = unwrap_or colour face.defaults.foreground }
styled face style (Font None) = record style { font = unwrap_or (font_of face face.defaults.font) style.font }
styled face style (Font (Some wanted)) = record style { font = unwrap_or (font_of face wanted.0) style.font }
styled face style (FlashOn first lit dark) = record style {
  flash = Some (record {
    first = first;
    lit = unwrap_or lit face.defaults.flash_on;
    dark = unwrap_or dark face.defaults.flash_off;
  });
}
styled face style FlashEnd = record style { flash = None }
styled face style (JustLine side) = record style { side = side_of (unwrap_or side face.defaults.line) }
styled face style (JustPage part) = record style { part = part_of (unwrap_or part face.defaults.page) }
styled face style (PageTime on off) =
    record style { on = unwrap_or on face.defaults.on; off = unwrap_or off face.defaults.off }
styled face style _ = style

-- ---- pages of lines of characters

-- a character and its style
pub record Character : Type 0 where
  pub glyph : GlyphModel
  pub style : Style

-- a line's characters, its part of the page, the font current at its end, and the gap that its tag gives above it
pub record Line : Type 0 where
  pub characters : List Character
  pub part : Part
  pub font : FontModel
  pub gap : Option ℕ

-- a page: its lines, its background and its times
pub record PageModel : Type 0 where
  pub lines : List Line
  pub background : ℕ
  pub on : ℕ
  pub off : ℕ

-- The pages that are closed; of the open page the lines that are closed; of the open line the characters and the gap
-- above it; and the style of what follows.
pub record Layout : Type 0 where
  pub pages : List PageModel
  pub lines : List Line
  pub characters : List Character
  pub gap : Option ℕ
  pub style : Style

abbrev pub is_blank : {A : Type 0} → List A → Bool
is_blank [] = true
is_blank (x ∷ xs) = false

abbrev pub open_line : Layout → Line
open_line layout =
    record { characters = layout.characters; part = layout.style.part; font = layout.style.font; gap = layout.gap }

-- the open page's lines while the open line is open: without a character it counts nothing
abbrev pub standing : Layout → List Line
standing layout = if is_blank layout.characters then layout.lines else layout.lines ++ open_line layout ∷ []

abbrev pub has_line_in : Part → List Line → Bool
has_line_in part lines = list_any (λ (line : Line). same_part line.part part) lines

-- the open page's lines once the open line and its part are closed: a part with a single line without a character has
-- no lines
abbrev pub closed : Layout → List Line
closed layout =
    if is_blank layout.characters && not (has_line_in layout.style.part layout.lines) then layout.lines
    else layout.lines ++ open_line layout ∷ []

abbrev pub page_of : Style → List Line → PageModel
page_of style lines = record { lines = lines; background = style.background; on = style.on; off = style.off }

abbrev pub with_character : Layout → Option GlyphModel → Layout
with_character layout None = layout
with_character layout (Some glyph) =
    record layout { characters = layout.characters ++ (record { glyph = glyph; style = layout.style }) ∷ [] }

-- the open line is closed, and the next one opens in the same part
abbrev pub with_line : Layout → Option ℕ → Layout
with_line layout gap = record layout { lines = layout.lines ++ open_line layout ∷ []; characters = []; gap = gap }

-- The line, its part and the page are closed, and the next page opens.
abbrev pub with_page : Layout → Layout
with_page layout = record {
  pages = layout.pages ++ page_of layout.style (closed layout) ∷ [];
  lines = [];
  characters = [];
  gap = None;
  style = layout.style;
}

-- Where the part changes, the line and its part are closed, and a line opens in the other part.
abbrev pub with_part : Layout → Style → Layout
with_part layout style =
    if same_part style.part layout.style.part then layout
    else record { pages = layout.pages; lines = closed layout; characters = []; gap = None; style = style }

-- what an item makes of the layout
abbrev pub with_item : FaceModel → Layout → Item → Layout
with_item face layout (Char character) = with_character layout (glyph_of layout.style.font character)
with_item face layout (NewLine gap) = with_line layout gap
with_item face layout NewPage = with_page layout
with_item face layout (JustPage part) = with_part layout (styled face layout.style (JustPage part))
with_item face layout item = record layout { style = styled face layout.style item }

-- a page with one open line, and nothing on it
abbrev pub blank_layout : FaceModel → Layout
blank_layout face = record { pages = []; lines = []; characters = []; gap = None; style = first_style face }

-- ---- prefixes

-- an item of a text, or none for its end, which counts as a last item and closes the page
abbrev pub Turn : Type 0
Turn = Option Item

abbrev pub with_turn : FaceModel → Layout → Turn → Layout
with_turn face layout None = with_page layout
with_turn face layout (Some item) = with_item face layout item

-- where the characters of a prefix of a text stand
abbrev pub layout_of : FaceModel → List Turn → Layout
layout_of face front = fold (with_turn face) (blank_layout face) front
