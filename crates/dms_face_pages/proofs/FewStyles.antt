-- No page of a text without a fault has more styles than an octet can name: a style more takes a tag of four octets.
use Rattle.std.proofs.Common.{◌≡◌, ℕ, ◌+◌, ◌*◌, ◌≤◌, inl, inr, Bool, true, List, [], ◌∷◌, ◌++◌, length, fold, length-append, Option, Some, None, codes, refl, ap, ◌∙◌, arith}
use Rattle.std.specs.List.{list_all}
use Rattle.std.proofs.lemmas.Bool.{cases_Bool, and_from, le-leb}
use Rattle.std.proofs.lemmas.Grind.{fold-append}
use Rattle.std.proofs.lemmas.List.{length-map}
use Rattle.std.proofs.lemmas.List.Folds.{list_all-append}
use Rattle.dms_multi.specs.declared.item.Item.{Item}
use Rattle.dms_multi.specs.declared.item.Item.TheVariants.{Char, Background, Foreground, Font, FlashOn, FlashEnd}
use Rattle.dms_multi.specs.declared.item.Item.TheVariants.{JustLine, JustPage, NewLine, NewPage, PageTime}
use Rattle.dms_multi.specs.Grammar.{◌⨾◌, Exactly, Word, ItemSpells, TextSpells}
use Rattle.dms_multi.specs.Outcomes.{items_of}
use Rattle.dms_multi.proofs.ReadLaws.{items_spelled}
use Rattle.dms_face_font.specs.Font.{glyph_of}
use Rattle.dms_face_font.specs.Glyph.{GlyphModel}
use Rattle.dms_face.specs.declared.cell.Cell.{Cell}
use Rattle.dms_face.specs.Face.{FaceModel}
use Rattle.dms_face.specs.Layout.{Style, PageModel, Layout, blank_layout, closed, page_of, styled, with_part, with_item, with_turn, with_page}
use Rattle.dms_face.specs.Layout.{with_line as layout_with_line, with_character as layout_with_character}
use Rattle.dms_face.specs.Fit.{turns_of, fault_of}
use Rattle.dms_face.specs.Cells.{pages_of}
use Rattle.dms_face_pages.specs.Drawn.{unlit}
use Rattle.dms_face_pages.specs.Drawing.{lit_cell}
use Rattle.dms_face_pages.specs.Styles.{with_style, with_character, with_line, has_room_for_styles, most_styles}
use Rattle.dms_face_pages.proofs.LayingLaws.{is_read}
use Rattle.dms_face_pages.proofs.PageStyles.{added_style, style_grows}

-- ---- a tag after which characters may show something else takes four octets

abbrev changes : Item → ℕ
changes (Foreground colour) = 1
changes (FlashOn first lit dark) = 1
changes FlashEnd = 1
changes _ = 0

abbrev changes_in : List Item → ℕ
changes_in [] = 0
changes_in (item ∷ items) = changes item + changes_in items

word_long : (word text : List ℕ) → Word word text → length text ≡ length word
word_long word text is = grind (arith, length-map)

-- a tag of this body in its brackets
abbrev InBrackets : (List ℕ → Type 0) → List ℕ → Type 0
InBrackets Body = Exactly (codes "[") ⨾ (Body ⨾ Exactly (codes "]"))

in_brackets_long : (n : ℕ) (Body : List ℕ → Type 0) (text : List ℕ) → ((body : List ℕ) → Body body → n ≤ length body) → InBrackets Body text → n + 2 ≤ length text
in_brackets_long n Body text long tag =
    omega (
      arith,
      ap length tag.parts,
      length-append tag.front tag.back,
      ap length tag.first,
      ap length tag.second.parts,
      length-append tag.second.front tag.second.back,
      long tag.second.front tag.second.first,
      ap length tag.second.second,
    )

named_long : (word : List ℕ) (Rest : List ℕ → Type 0) (body : List ℕ) → (Word word ⨾ Rest) body → length word ≤ length body
named_long word Rest body named = omega (arith, ap length named.parts, length-append named.front named.back, word_long word named.front named.first)

item_long : (item : Item) (text : List ℕ) → ItemSpells item text → 4 * changes item ≤ length text
item_long (Foreground colour) text spelled = elim spelled [
  | inl never ↦ absurd never
  | inr tag ↦ in_brackets_long 2 _ text (named_long (codes "cf") _) tag
]
item_long (FlashOn first lit dark) text spelled = elim spelled [
  | inl never ↦ absurd never
  | inr tag ↦ in_brackets_long 2 _ text (named_long (codes "fl") _) tag
]
item_long FlashEnd text spelled = elim spelled [
  | inl never ↦ absurd never
  | inr tag ↦ in_brackets_long 2 _ text (λ body is. omega (arith, word_long (codes "/fl") body is)) tag
]
item_long item text spelled = omega arith

items_long : (items : List Item) (text : List ℕ) → TextSpells items text → 4 * changes_in items ≤ length text
items_long [] text spelled = omega arith
items_long (item ∷ items) text spelled =
    omega (arith, item_long item spelled.front spelled.first, items_long items spelled.back spelled.second, ap length spelled.parts, length-append spelled.front spelled.back)

-- ---- the styles of the open page

abbrev open_styles : ℕ → Layout → List Cell
open_styles background layout = fold with_character (fold with_line (unlit background ∷ []) layout.lines) layout.characters

-- and that of the next character
abbrev next_styles : ℕ → Layout → List Cell
next_styles background layout = with_style (open_styles background layout) (lit_cell layout.style)

-- There is room for them and for as many more as tags are left.
record HasRoom (layout : Layout) (left : ℕ) : Type 0 where
  now : (background : ℕ) → length (next_styles background layout) + left ≤ most_styles
  next : left + 2 ≤ most_styles

style_once : (styles : List Cell) (cell : Cell) → with_style (with_style styles cell) cell ≡ with_style styles cell
style_once styles cell = grind (arith, added_style)

one_more : (styles : List Cell) (cell : Cell) → length (with_style styles cell) ≤ length styles + 1
one_more styles cell = grind (arith, cases_Bool, length-append)

closed_styles : (styles : List Cell) (layout : Layout) → fold with_line styles (closed layout) ≡ fold with_character (fold with_line styles layout.lines) layout.characters
closed_styles styles layout = grind (arith, cases_Bool, fold-append)

character_kept : (layout : Layout) (left : ℕ) (glyph : GlyphModel) → HasRoom layout left
    → HasRoom (record layout { characters = layout.characters ++ (record { glyph = glyph; style = layout.style }) ∷ [] }) left
character_kept layout left glyph room = grind (arith, fold-append, style_once)

line_kept : (layout : Layout) (left : ℕ) (gap : Option ℕ) → HasRoom layout left → HasRoom (layout_with_line layout gap) left
line_kept layout left gap room = grind (arith, fold-append)

page_kept : (layout : Layout) (left : ℕ) → HasRoom layout left → HasRoom (with_page layout) left
page_kept layout left room = grind (arith, one_more)

part_kept : (layout : Layout) (left : ℕ) (style : Style) → lit_cell style ≡ lit_cell layout.style → HasRoom layout left → HasRoom (with_part layout style) left
part_kept layout left style same room = grind (arith, cases_Bool, closed_styles)

style_kept : (layout : Layout) (left : ℕ) (style : Style) → lit_cell style ≡ lit_cell layout.style → HasRoom layout left → HasRoom (record layout { style = style }) left
style_kept layout left style same room = grind arith

style_changed : (layout : Layout) (left : ℕ) (style : Style) → HasRoom layout (1 + left) → HasRoom (record layout { style = style }) left
style_changed layout left style room = record {
  now = λ background.
      omega (arith, room.now background, one_more (open_styles background layout) (lit_cell style), style_grows (open_styles background layout) (lit_cell layout.style));
  next = omega (arith, room.next);
}

option_kept : (layout : Layout) (left : ℕ) (glyph : Option GlyphModel) → HasRoom layout left → HasRoom (layout_with_character layout glyph) left
option_kept layout left None room = room
option_kept layout left (Some glyph) room = character_kept layout left glyph room

less : (layout : Layout) (more left : ℕ) → left ≤ more → HasRoom layout more → HasRoom layout left
less layout more left fewer room = record { now = λ background. omega (arith, fewer, room.now background); next = omega (arith, fewer, room.next) }

item_kept : (face : FaceModel) (layout : Layout) (item : Item) (left : ℕ) → HasRoom layout (changes item + left) → HasRoom (with_item face layout item) left
item_kept face layout (Char character) left room = option_kept layout left (glyph_of layout.style.font character) (less layout _ left (omega arith) room)
item_kept face layout (NewLine gap) left room = line_kept layout left gap (less layout _ left (omega arith) room)
item_kept face layout NewPage left room = page_kept layout left (less layout _ left (omega arith) room)
item_kept face layout (JustPage part) left room = part_kept layout left (styled face layout.style (JustPage part)) refl (less layout _ left (omega arith) room)
item_kept face layout (Foreground colour) left room = style_changed layout left (styled face layout.style (Foreground colour)) room
item_kept face layout (FlashOn first lit dark) left room = style_changed layout left (styled face layout.style (FlashOn first lit dark)) room
item_kept face layout FlashEnd left room = style_changed layout left (styled face layout.style FlashEnd) room
item_kept face layout (Font None) left room = style_kept layout left (styled face layout.style (Font None)) refl (less layout _ left (omega arith) room)
item_kept face layout (Font (Some wanted)) left room = style_kept layout left (styled face layout.style (Font (Some wanted))) refl (less layout _ left (omega arith) room)
item_kept face layout (Background colour) left room = style_kept layout left (styled face layout.style (Background colour)) refl (less layout _ left (omega arith) room)
item_kept face layout (JustLine side) left room = style_kept layout left (styled face layout.style (JustLine side)) refl (less layout _ left (omega arith) room)
item_kept face layout (PageTime on off) left room = style_kept layout left (styled face layout.style (PageTime on off)) refl (less layout _ left (omega arith) room)

-- ---- the closed pages

abbrev all_few : List PageModel → Bool
all_few pages = list_all has_room_for_styles pages

page_few : (layout : Layout) (left : ℕ) → HasRoom layout left → has_room_for_styles (page_of layout.style (closed layout)) ≡ true
page_few layout left room =
    let background = layout.style.background in
    le-leb _ _ (omega (arith, room.now background, style_grows (open_styles background layout) (lit_cell layout.style), ap length (closed_styles (unlit background ∷ []) layout)))

option_few : (layout : Layout) (glyph : Option GlyphModel) → (layout_with_character layout glyph).pages ≡ layout.pages
option_few layout glyph = grind arith

closed_few : (layout : Layout) (left : ℕ) → HasRoom layout left → all_few layout.pages ≡ true → all_few (with_page layout).pages ≡ true
closed_few layout left room few =
    list_all-append has_room_for_styles layout.pages (page_of layout.style (closed layout) ∷ []) ∙ and_from _ _ few (and_from _ _ (page_few layout left room) refl)

item_few : (face : FaceModel) (layout : Layout) (item : Item) (left : ℕ) → HasRoom layout left → all_few layout.pages ≡ true → all_few (with_item face layout item).pages ≡ true
item_few face layout NewPage left room few = closed_few layout left room few
item_few face layout (Char character) left room few = ap all_few (option_few layout (glyph_of layout.style.font character)) ∙ few
item_few face layout (JustPage part) left room few = grind (arith, cases_Bool)
item_few face layout (Font None) left room few = few
item_few face layout (Font (Some wanted)) left room few = few
item_few face layout item left room few = few

turns_few : (face : FaceModel) (layout : Layout) (items : List Item) → HasRoom layout (changes_in items) → all_few layout.pages ≡ true
    → all_few (fold (with_turn face) layout (turns_of items)).pages ≡ true
turns_few face layout [] room few = closed_few layout 0 room few
turns_few face layout (item ∷ items) room few =
    turns_few face (with_item face layout item) items (item_kept face layout item (changes_in items) room) (item_few face layout item (changes item + changes_in items) room few)

blank_room : (face : FaceModel) (left : ℕ) → left + 2 ≤ most_styles → HasRoom (blank_layout face) left
blank_room face left few = record {
  now = λ background. omega (arith, few, one_more (unlit background ∷ []) (lit_cell (blank_layout face).style));
  next = few;
}

pub few_styles : (face : FaceModel) (text : List ℕ) → fault_of face text ≡ None → list_all has_room_for_styles (pages_of face text) ≡ true
unfolding pages_of
few_styles face text none =
    let read = is_read face text none in
    turns_few face (blank_layout face) (items_of text) (blank_room face (changes_in (items_of text)) (omega (arith, read.0, items_long (items_of text) text (items_spelled text read.1)))) refl
