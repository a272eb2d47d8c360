-- What the rules say of each character and each page of a text (NTCIP 1203, MULTI): what holds for it is what the last
-- item before it said that says it, and else the default.
use Rattle.std.specs.Prelude.{ℕ, ◌+◌, ◌≤◌, List, [], ◌∷◌, ◌++◌, map, flat_map, Option, Some, None, unwrap_or}
use Rattle.std.specs.List.{count_by}
use Rattle.dms_multi.specs.declared.item.Item.{Item}
use Rattle.dms_multi.specs.declared.item.Item.TheVariants.{Char, Background, Foreground, Font, FlashOn}
use Rattle.dms_multi.specs.declared.item.Item.TheVariants.{FlashEnd, JustLine, JustPage, NewPage, PageTime}
use Rattle.dms_face.specs.declared.cell.Flash.{Flash}
use Rattle.dms_face.specs.declared.justification.Side.{Side}
use Rattle.dms_face.specs.declared.justification.Part.{Part}
use Rattle.dms_face_font.specs.Glyph.{GlyphModel}
use Rattle.dms_face_font.specs.Font.{FontModel, glyph_of}
use Rattle.dms_face.specs.Justification.{side_of, part_of}
use Rattle.dms_face.specs.Face.{FaceModel, font_of}
use Rattle.dms_face.specs.Layout.{Style, Character, Line, PageModel, no_font}
use Rattle.dms_face.specs.Fit.{is_new_page}
use Rattle.dms_face.specs.Cells.{page_characters, is_lit_by}

-- ---- what an item says of all that follows it; a value that is missing is the default

abbrev pub font_said : FaceModel → Item → Option FontModel
font_said face (Font None) = font_of face face.defaults.font
font_said face (Font (Some wanted)) = font_of face wanted.0
font_said face _ = None

abbrev pub foreground_said : FaceModel → Item → Option ℕ
foreground_said face (Foreground colour) = Some (unwrap_or colour face.defaults.foreground)
foreground_said face _ = None

abbrev pub flash_said : FaceModel → Item → Option (Option Flash)
flash_said face (FlashOn first lit dark) = Some (Some (record {
  first = first;
  lit = unwrap_or lit face.defaults.flash_on;
  dark = unwrap_or dark face.defaults.flash_off;
}))
flash_said face FlashEnd = Some None
flash_said face _ = None

abbrev pub side_said : FaceModel → Item → Option Side
side_said face (JustLine side) = Some (side_of (unwrap_or side face.defaults.line))
side_said face _ = None

abbrev pub part_said : FaceModel → Item → Option Part
part_said face (JustPage part) = Some (part_of (unwrap_or part face.defaults.page))
part_said face _ = None

abbrev pub background_said : FaceModel → Item → Option ℕ
background_said face (Background colour) = Some (unwrap_or colour face.defaults.background)
background_said face _ = None

abbrev pub on_said : FaceModel → Item → Option ℕ
on_said face (PageTime on off) = Some (unwrap_or on face.defaults.on)
on_said face _ = None

abbrev pub off_said : FaceModel → Item → Option ℕ
off_said face (PageTime on off) = Some (unwrap_or off face.defaults.off)
off_said face _ = None

-- ---- the last such item, else the default

abbrev pub last_said : {A : Type 0} → (Item → Option A) → A → List Item → A
last_said said default [] = default
last_said said default (item ∷ items) = last_said said (unwrap_or (said item) default) items

-- what holds after these items
abbrev pub style_after : FaceModel → List Item → Style
style_after face items = record {
  font = last_said (font_said face) (unwrap_or (font_of face face.defaults.font) no_font) items;
  foreground = last_said (foreground_said face) face.defaults.foreground items;
  flash = last_said (flash_said face) None items;
  side = last_said (side_said face) (side_of face.defaults.line) items;
  part = last_said (part_said face) (part_of face.defaults.page) items;
  background = last_said (background_said face) face.defaults.background items;
  on = last_said (on_said face) face.defaults.on items;
  off = last_said (off_said face) face.defaults.off items;
}

-- ---- characters, each with the number of its page from 0: that of the new pages before it

abbrev pub character_with : ℕ → Style → Option GlyphModel → List (ℕ × Character)
character_with page style None = []
character_with page style (Some glyph) = (page, record { glyph = glyph; style = style }) ∷ []

abbrev pub character_said : FaceModel → List Item → Item → List (ℕ × Character)
character_said face before (Char character) = character_with (count_by is_new_page before) (style_after face before)
    (glyph_of (style_after face before).font character)
character_said face before _ = []

-- the characters of items that stand after those before
abbrev pub characters_said : FaceModel → List Item → List Item → List (ℕ × Character)
characters_said face before [] = []
characters_said face before (item ∷ items) =
    character_said face before item ++ characters_said face (before ++ item ∷ []) items

abbrev pub line_characters : List Line → List Character
line_characters lines = flat_map (λ (line : Line). line.characters) lines

-- the characters of pages, of which the first has this number
abbrev pub characters_from : ℕ → List PageModel → List (ℕ × Character)
characters_from number [] = []
characters_from number (page ∷ pages) =
    map (λ (it : Character). (number, it)) (line_characters page.lines) ++ characters_from (number + 1) pages

-- ---- pages: their background and their times

pub record PageStyle : Type 0 where
  pub background : ℕ
  pub on : ℕ
  pub off : ℕ

abbrev pub page_style : PageModel → PageStyle
page_style page = record { background = page.background; on = page.on; off = page.off }

abbrev pub page_style_of : Style → PageStyle
page_style_of style = record { background = style.background; on = style.on; off = style.off }

abbrev pub page_said : FaceModel → List Item → Item → List PageStyle
page_said face before NewPage = page_style_of (style_after face before) ∷ []
page_said face before _ = []

-- the pages that items end that stand after those before, and the one that the text's end ends
abbrev pub pages_said : FaceModel → List Item → List Item → List PageStyle
pages_said face before [] = page_style_of (style_after face before) ∷ []
pages_said face before (item ∷ items) = page_said face before item ++ pages_said face (before ++ item ∷ []) items

-- ---- cells

-- no two characters of a page light one cell
abbrev pub LightsEachCellOnce : FaceModel → PageModel → Type 0
LightsEachCellOnce face page = (x y : ℕ) → count_by (is_lit_by x y) (page_characters face page) ≤ 1
