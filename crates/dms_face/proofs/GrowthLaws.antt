-- When the lines that stand on a page take as much room as before.
use Rattle.std.proofs.Common.{◌≡◌, ◌≤◌, ℕ, Bool, true, false, cond, List, [], ◌∷◌, ◌++◌, map, fold, max, Option, Some, ap, sym, ◌∙◌, arith}
use Rattle.std.proofs.lemmas.Bool.Decides.{nat_tests}
use Rattle.std.proofs.lemmas.Grind.{fold-append}
use Rattle.std.proofs.lemmas.List.{map-append}
use Rattle.dms_multi.specs.declared.item.Item.{Item}
use Rattle.dms_multi.specs.declared.item.Item.TheVariants.{Background, Foreground, FlashOn, FlashEnd, PageTime}
use Rattle.dms_face.specs.declared.justification.Part.{Part}
use Rattle.dms_face.specs.declared.room.Block.{Block}
use Rattle.dms_face.specs.Justification.{place_of_part}
use Rattle.dms_face_font.specs.Glyph.{GlyphModel}
use Rattle.dms_face_font.specs.Font.{FontModel}
use Rattle.dms_face.specs.Face.{FaceModel}
use Rattle.dms_face.specs.Layout.{Character, Line, Layout, is_blank, standing, with_character}
use Rattle.dms_face.specs.Room.{line_block, lines_fit}
use Rattle.dms_face.proofs.RoomLaws.{same_standing}

-- the greatest number of the characters' fonts
abbrev pub most : (FontModel → ℕ) → List Character → ℕ
most of_font characters = fold max 0 (map (λ (character : Character). of_font character.style.font) characters)

max_of_less : (a b : ℕ) → b ≤ a → max a b ≡ a
max_of_less a b less = grind (arith, nat_tests)

pub most_push : (of_font : FontModel → ℕ) (characters : List Character) (character : Character) → of_font character.style.font ≤ most of_font characters
    → most of_font (characters ++ character ∷ []) ≡ most of_font characters
most_push of_font characters character less = grind (arith, map-append, fold-append, max_of_less)

-- a line with a character more, that is no taller and no more widely spaced
kept : (characters : List Character) (lines : List Line) (part : Part) (font : FontModel) (gap : Option ℕ) (it : Character) → is_blank characters ≡ false
    → it.style.font.height ≤ most (λ (f : FontModel). f.height) characters → it.style.font.line_spacing ≤ most (λ (f : FontModel). f.line_spacing) characters
    → map line_block (cond (is_blank (characters ++ it ∷ [])) lines (lines ++ (record { characters = characters ++ it ∷ []; part = part; font = font; gap = gap }) ∷ []))
    ≡ map line_block (cond (is_blank characters) lines (lines ++ (record { characters = characters; part = part; font = font; gap = gap }) ∷ []))
kept [] lines part font gap it some low close = absurd (let wrong : true ≡ false = some in cc)
kept (c ∷ cs) lines part font gap it some low close =
    let block : ℕ → ℕ → Block = λ size spacing. record { place = place_of_part part; size = size; spacing = spacing; gap = gap } in
    let tall = most_push (λ (f : FontModel). f.height) (c ∷ cs) it low in
    let wide = most_push (λ (f : FontModel). f.line_spacing) (c ∷ cs) it close in
    map-append line_block lines _
    ∙ ap (λ size. map line_block lines ++ block size (most (λ (f : FontModel). f.line_spacing) ((c ∷ cs) ++ it ∷ [])) ∷ []) tall
    ∙ ap (λ spacing. map line_block lines ++ block (most (λ (f : FontModel). f.height) (c ∷ cs)) spacing ∷ []) wide
    ∙ sym (map-append line_block lines _)

-- The lines that stand take as much room where a line with a character gets one more that is no taller and no more widely spaced.
pub standing_kept : (layout : Layout) (glyph : GlyphModel) → is_blank layout.characters ≡ false
    → layout.style.font.height ≤ most (λ (f : FontModel). f.height) layout.characters
    → layout.style.font.line_spacing ≤ most (λ (f : FontModel). f.line_spacing) layout.characters
    → map line_block (standing (with_character layout (Some glyph))) ≡ map line_block (standing layout)
standing_kept layout glyph some low close = grind (arith, kept)

pub ruleset growth = (standing_kept)

-- the lines that stand take as much room under another font
pub font_standing : (face : FaceModel) (layout : Layout) (font : FontModel) → lines_fit face (standing layout) ≡ true
    → lines_fit face (standing (record layout { style = record layout.style { font = font } })) ≡ true
font_standing face layout font room = same_standing face layout.characters layout.lines layout.style.part font layout.style.font layout.gap ∙ room

pub ruleset fonts = (font_standing)

-- ---- items that change neither the side, the part nor the font

abbrev pub is_plain : Item → Bool
is_plain (Background colour) = true
is_plain (Foreground colour) = true
is_plain (FlashOn first lit dark) = true
is_plain FlashEnd = true
is_plain (PageTime on off) = true
is_plain _ = false
