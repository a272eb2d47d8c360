-- The layout of a text gives each character and each page what the rules say.
use Rattle.std.proofs.Common.{◌≡◌, ℕ, ◌+◌, Bool, cond, List, [], ◌∷◌, ◌++◌, length, map, fold, Option, None, unwrap_or, refl, sym, ap, ◌∙◌, arith, append_assoc, length-append}
use Rattle.std.specs.List.{count_by}
use Rattle.std.proofs.lemmas.List.{append-nil, map-append}
use Rattle.std.proofs.lemmas.Grind.{flat_map-append}
use Rattle.std.proofs.lemmas.List.Sums.{sum_by-cons, sum_by_push}
use Rattle.dms_multi.specs.declared.item.Item.{Item}
use Rattle.dms_multi.specs.Outcomes.{items_of}
use Rattle.dms_face_font.specs.Glyph.{GlyphModel}
use Rattle.dms_face.specs.Face.{FaceModel}
use Rattle.dms_face.specs.Layout.{Style, Character, Line, PageModel, Layout, styled, closed, with_character, with_page, with_item, with_turn, blank_layout, layout_of, page_of}
use Rattle.dms_face.specs.Fit.{is_new_page, turns_of, page_count}
use Rattle.dms_face.specs.Cells.{pages_of}
use Rattle.dms_face.specs.Rules.{font_said, foreground_said, flash_said, side_said, part_said, background_said, on_said, off_said, last_said, style_after, character_with, character_said, characters_said, line_characters, characters_from, page_style, page_said, pages_said}

-- ---- the style

last_more : {A : Type 0} (said : Item → Option A) (default : A) (items : List Item) (item : Item) → last_said said default (items ++ item ∷ []) ≡ unwrap_or (said item) (last_said said default items)
last_more said default [] item = refl
last_more said default (first ∷ items) item = last_more said (unwrap_or (said first) default) items item

-- a style with what one item more says
abbrev style_with : FaceModel → Style → Item → Style
style_with face style item = record {
  font = unwrap_or (font_said face item) style.font;
  foreground = unwrap_or (foreground_said face item) style.foreground;
  flash = unwrap_or (flash_said face item) style.flash;
  side = unwrap_or (side_said face item) style.side;
  part = unwrap_or (part_said face item) style.part;
  background = unwrap_or (background_said face item) style.background;
  on = unwrap_or (on_said face item) style.on;
  off = unwrap_or (off_said face item) style.off;
}

style_more : (face : FaceModel) (before : List Item) (item : Item) → style_after face (before ++ item ∷ []) ≡ style_with face (style_after face before) item
style_more face before item = grind (arith, last_more, unwrap_or)

styled_with : (face : FaceModel) (style : Style) (item : Item) → styled face style item ≡ style_with face style item
styled_with face style item = grind arith

-- ---- what one item changes

-- the characters of a layout, each with the number of its page
abbrev characters_of : Layout → List (ℕ × Character)
characters_of layout = characters_from 0 layout.pages ++ map (λ (it : Character). (length layout.pages, it)) (line_characters layout.lines ++ layout.characters)

lines_more : (lines : List Line) (line : Line) → line_characters (lines ++ line ∷ []) ≡ line_characters lines ++ line.characters
lines_more lines line = flat_map-append (λ (it : Line). it.characters) lines (line ∷ []) ∙ ap (λ l. line_characters lines ++ l) (append-nil line.characters)

closed_characters : (layout : Layout) → line_characters (closed layout) ≡ line_characters layout.lines ++ layout.characters
closed_characters layout = grind (arith, append-nil, lines_more)

pages_more : (number : ℕ) (pages : List PageModel) (page : PageModel)
    → characters_from number (pages ++ page ∷ []) ≡ characters_from number pages ++ map (λ (it : Character). (number + length pages, it)) (line_characters page.lines)
pages_more number [] page = append-nil _ ∙ ap (λ n. map (λ (it : Character). (n, it)) (line_characters page.lines)) (let e : number ≡ number + 0 = omega arith in e)
pages_more number (first ∷ pages) page = grind (arith, append-nil, append_assoc, pages_more (number + 1) pages page)

page_characters_kept : (layout : Layout) → characters_of (with_page layout) ≡ characters_of layout
page_characters_kept layout = grind (arith, append-nil, pages_more, closed_characters)

-- what is before a text's items is said by the rules
record Follows (face : FaceModel) (before : List Item) (layout : Layout) : Type 0 where
  style : layout.style ≡ style_after face before
  pages : length layout.pages ≡ count_by is_new_page before

count_more : (items : List Item) (item : Item) → count_by is_new_page (items ++ item ∷ []) ≡ count_by is_new_page items + cond (is_new_page item) 1 0
count_more items item = sum_by_push (λ it. cond (is_new_page it) 1 0) items item

character_pages : (layout : Layout) (found : Option GlyphModel) → (with_character layout found).pages ≡ layout.pages
character_pages layout found = grind arith

part_pages : (layout : Layout) (style : Style) (b : Bool)
    → (cond b layout (record { pages = layout.pages; lines = closed layout; characters = []; gap = None; style = style })).pages ≡ layout.pages
part_pages layout style b = grind arith

part_characters : (layout : Layout) (style : Style) (b : Bool)
    → characters_of (cond b layout (record { pages = layout.pages; lines = closed layout; characters = []; gap = None; style = style })) ≡ characters_of layout
part_characters layout style b = grind (arith, append-nil, closed_characters)

item_style : (face : FaceModel) (layout : Layout) (item : Item) → (with_item face layout item).style ≡ styled face layout.style item
item_style face layout item = grind arith

item_pages : (face : FaceModel) (layout : Layout) (item : Item) → length (with_item face layout item).pages ≡ length layout.pages + cond (is_new_page item) 1 0
item_pages face layout item = grind (arith, character_pages, part_pages, unwrap_or, length-append)

follows_item : (face : FaceModel) (before : List Item) (layout : Layout) (item : Item) → Follows face before layout → Follows face (before ++ item ∷ []) (with_item face layout item)
follows_item face before layout item follows = grind (arith, item_style, styled_with, style_more, item_pages, count_more)

-- ---- characters

abbrev with_one : Layout → Option GlyphModel → List (ℕ × Character)
with_one layout found = character_with (length layout.pages) layout.style found

character_more : (layout : Layout) (found : Option GlyphModel) → characters_of (with_character layout found) ≡ characters_of layout ++ with_one layout found
character_more layout found = grind (arith, append-nil, append_assoc, map-append)

item_characters : (face : FaceModel) (before : List Item) (layout : Layout) (item : Item) → Follows face before layout
    → characters_of (with_item face layout item) ≡ characters_of layout ++ character_said face before item
item_characters face before layout item follows = grind (arith, character_more, part_characters, unwrap_or, append-nil, lines_more, page_characters_kept)

all_characters : (face : FaceModel) (items before : List Item) (layout : Layout) → Follows face before layout
    → characters_of (fold (with_turn face) layout (turns_of items)) ≡ characters_of layout ++ characters_said face before items
all_characters face [] before layout follows = page_characters_kept layout ∙ sym (append-nil (characters_of layout))
all_characters face (item ∷ items) before layout follows =
    all_characters face items (before ++ item ∷ []) (with_item face layout item) (follows_item face before layout item follows)
    ∙ ap (λ l. l ++ characters_said face (before ++ item ∷ []) items) (item_characters face before layout item follows)
    ∙ append_assoc (characters_of layout) (character_said face before item) (characters_said face (before ++ item ∷ []) items)

-- ---- pages

item_page : (face : FaceModel) (before : List Item) (layout : Layout) (item : Item) → Follows face before layout
    → map page_style (with_item face layout item).pages ≡ map page_style layout.pages ++ page_said face before item
item_page face before layout item follows = grind (arith, character_pages, append-nil, part_pages, unwrap_or, map-append)

all_pages : (face : FaceModel) (items before : List Item) (layout : Layout) → Follows face before layout
    → map page_style (fold (with_turn face) layout (turns_of items)).pages ≡ map page_style layout.pages ++ pages_said face before items
all_pages face [] before layout follows = grind (arith, map-append, follows_item, item_page, append_assoc)
all_pages face (item ∷ items) before layout follows = grind (arith, map-append, follows_item, item_page, append_assoc, all_pages face items (before ++ item ∷ []) (with_item face layout item) (follows_item face before layout item follows))

page_number : (face : FaceModel) (items : List Item) (layout : Layout) → length (fold (with_turn face) layout (turns_of items)).pages ≡ length layout.pages + count_by is_new_page items + 1
page_number face [] layout = omega (arith, length-append layout.pages (page_of layout.style (closed layout) ∷ []))
page_number face (item ∷ items) layout =
    omega (arith, page_number face items (with_item face layout item), item_pages face layout item, sum_by-cons (λ it. cond (is_new_page it) 1 0) item items)

-- ---- whole texts

blank_follows : (face : FaceModel) → Follows face [] (blank_layout face)
blank_follows face = record { style = refl; pages = refl }

-- after a text's end no line and no character is open
nothing_open : (face : FaceModel) (items : List Item) (layout : Layout)
    → line_characters (fold (with_turn face) layout (turns_of items)).lines ++ (fold (with_turn face) layout (turns_of items)).characters ≡ []
nothing_open face [] layout = refl
nothing_open face (item ∷ items) layout = nothing_open face items (with_item face layout item)

pub characters_law : (face : FaceModel) (text : List ℕ) → characters_from 0 (pages_of face text) ≡ characters_said face [] (items_of text)
unfolding pages_of
characters_law face text =
    let layout : Layout = layout_of face (turns_of (items_of text)) in
    sym (append-nil (characters_from 0 layout.pages))
    ∙ ap (λ l. characters_from 0 layout.pages ++ map (λ (it : Character). (length layout.pages, it)) l) (sym (nothing_open face (items_of text) (blank_layout face)))
    ∙ all_characters face (items_of text) [] (blank_layout face) (blank_follows face)

pub pages_law : (face : FaceModel) (text : List ℕ) → map page_style (pages_of face text) ≡ pages_said face [] (items_of text)
unfolding pages_of
pages_law face text = all_pages face (items_of text) [] (blank_layout face) (blank_follows face)

pub page_count_law : (face : FaceModel) (text : List ℕ) → length (pages_of face text) ≡ page_count text
unfolding pages_of page_count
page_count_law face text = page_number face (items_of text) (blank_layout face) ∙ (let e : 0 + count_by is_new_page (items_of text) + 1 ≡ count_by is_new_page (items_of text) + 1 = omega arith in e)
