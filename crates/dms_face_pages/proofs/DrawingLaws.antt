-- A character is drawn row by row, and a row cell by cell.
use Rattle.std.proofs.Common.{◌≡◌, ℕ, zero, suc, ◌+◌, ◌-◌, ◌*◌, ◌/◌, ◌%◌, ◌<◌, ◌≤◌, ◌&&◌, ◌||◌, Bool, true, false, cond, List, [], ◌∷◌, ◌++◌, length, Option, Some, None, sym, ap, subst, ◌∙◌, arith, min}
use Rattle.std.specs.Prelude.{nat_le, nat_lt, slice_index_or}
use Rattle.std.specs.Option.{option_or}
use Rattle.std.proofs.lemmas.Bool.{and_parts, and_from, leb-true, le-leb, ltb-true, lt-ltb, eqb-true, eq-eqb}
use Rattle.std.proofs.lemmas.Nat.{div-add-mod', mod_below, div_below, same_from_place}
use Rattle.std.proofs.lemmas.List.Folds.{find-append}
use Rattle.dms_face.specs.declared.cell.Cell.{Cell}
use Rattle.dms_face_font.specs.Glyph.{GlyphModel, is_bit, lit_at}
use Rattle.dms_face.specs.Face.{FaceModel}
use Rattle.dms_face.specs.Layout.{PageModel}
use Rattle.dms_face.specs.Cells.{PlacedCharacter, is_lit_by, cell_by}
use Rattle.dms_face_pages.specs.Drawing.{covered, is_in_picture, is_lit_in_row, is_lit_on_row, lit_cell, Shows}
use Rattle.dms_face_pages.specs.Styled.{StyledCells, style, IsLitStyle, Lights}

-- two tests that imply each other
pub same_test : (a b : Bool) → (a ≡ true → b ≡ true) → (b ≡ true → a ≡ true) → a ≡ b
same_test a b there back = grind arith

kept : (lit cell : Cell) (b : Bool) → cell.lit ≡ b → lit.lit ≡ true → cond (cond b cell lit).lit (cond b cell lit) lit ≡ cond b cell lit
kept lit cell b is on = grind arith

-- ---- a row of a picture in a row of the matrix

pub wide : (place width height : ℕ) → place < width * height → 0 < width
wide place zero height below = absurd (omega arith)
wide place (suc width) height below = omega arith

-- A row of a picture is cut off at the matrix's right end.
pub on_row : (width x y columns wide : ℕ) (glyph : GlyphModel) (row place : ℕ) → 0 < width → x ≤ width → columns ≡ min wide (width - x)
    → ((column line : ℕ) → lit_at glyph column line ≡ true → column < wide)
    → is_lit_in_row (y * width + x) columns glyph row place ≡ is_lit_on_row width x y glyph row place
on_row width x y columns wide glyph row place some inside is within = same_test _ _
    (λ h.
    let parts = and_parts _ _ h in
    let tests = and_parts _ _ parts.0 in
    let low : y * width + x ≤ place = leb-true _ _ tests.0 in
    let high : place < y * width + x + columns = ltb-true _ _ tests.1 in
    let column : place - y * width < width = omega arith in
    let same : place / width * width + place % width ≡ y * width + (place - y * width) = div-add-mod' place width ∙ (let e : place ≡ y * width + (place - y * width) = omega arith in e) in
    let at = same_from_place (place / width) (place % width) y (place - y * width) width (mod_below place width some) column same in
    and_from _ _ (and_from _ _ (eq-eqb (place / width) y at.0) (le-leb x (place % width) (omega (arith, at.1))))
    (ap (λ k. lit_at glyph k row) (let e : place % width - x ≡ place - (y * width + x) = omega (arith, at.1) in e) ∙ parts.1))
    (λ h.
    let parts = and_parts _ _ h in
    let tests = and_parts _ _ parts.0 in
    let line : place / width ≡ y = eqb-true _ _ tests.0 in
    let column : x ≤ place % width = leb-true _ _ tests.1 in
    let at : y * width + place % width ≡ place = ap (λ q. q * width + place % width) (sym line) ∙ div-add-mod' place width in
    let low : place % width < width = mod_below place width some in
    let near : place % width - x < wide = within (place % width - x) row parts.1 in
    and_from _ _ (and_from _ _ (le-leb (y * width + x) place (omega arith)) (lt-ltb place (y * width + x + columns) (omega arith)))
    (ap (λ k. lit_at glyph k row) (let e : place - (y * width + x) ≡ place % width - x = omega arith in e) ∙ parts.1))

-- ---- a picture

-- one row more
pub more_above : (width x y : ℕ) (glyph : GlyphModel) (rows place : ℕ)
    → (is_lit_on_row width x (y + rows) glyph rows place || (is_in_picture (place % width) (place / width) x y glyph && nat_lt (place / width) (y + rows)))
    ≡ (is_in_picture (place % width) (place / width) x y glyph && nat_lt (place / width) (y + (rows + 1)))
more_above width x y glyph rows place = grind arith

-- A row of a picture has its bits in its columns.
pub row_lit : (first width bits : ℕ) (glyph : GlyphModel) (row place : ℕ) → ((column : ℕ) → is_bit bits column ≡ lit_at glyph column row)
    → ((column : ℕ) → lit_at glyph column row ≡ true → column < width) → (nat_le first place && is_bit bits (place - first)) ≡ is_lit_in_row first width glyph row place
row_lit first width bits glyph row place are within = same_test _ _
    (λ h.
    let parts = and_parts (nat_le first place) (is_bit bits (place - first)) h in
    let low : first ≤ place = leb-true _ _ parts.0 in
    let lit : lit_at glyph (place - first) row ≡ true = sym (are (place - first)) ∙ parts.1 in
    let near : place - first < width = within (place - first) lit in
    and_from _ _ (and_from _ _ parts.0 (lt-ltb place (first + width) (omega arith))) lit)
    (λ h.
    let parts = and_parts (nat_le first place && nat_lt place (first + width)) (lit_at glyph (place - first) row) h in
    and_from _ _ (and_parts (nat_le first place) (nat_lt place (first + width)) parts.0).0 (are (place - first) ∙ parts.1))

-- all its rows that stand in the matrix
pub all_above : (width height place rows x y : ℕ) (glyph : GlyphModel) → place < width * height → ((k row : ℕ) → lit_at glyph k row ≡ true → row < height - y → row < rows)
    → (is_in_picture (place % width) (place / width) x y glyph && nat_lt (place / width) (y + rows)) ≡ is_in_picture (place % width) (place / width) x y glyph
all_above width height place rows x y glyph below within =
    same_test _ _ (λ h. (and_parts (is_in_picture (place % width) (place / width) x y glyph) (nat_lt (place / width) (y + rows)) h).0)
    (λ h.
    let parts = and_parts (nat_le x (place % width) && nat_le y (place / width)) (lit_at glyph (place % width - x) (place / width - y)) h in
    let low : y ≤ place / width = leb-true _ _ (and_parts (nat_le x (place % width)) (nat_le y (place / width)) parts.0).1 in
    let line : place / width < height = div_below place width height (wide place width height below) (let e : place < height * width = omega arith in e) in
    let near : place / width - y < rows = within (place % width - x) (place / width - y) parts.1 (omega arith) in
    and_from (is_in_picture (place % width) (place / width) x y glyph) (nat_lt (place / width) (y + rows)) h (lt-ltb (place / width) (y + rows) (omega arith)))

-- Where nothing is lit the cells stay.
pub lights_none : (on : ℕ → Bool) (lit : Cell) (old : StyledCells) → ((place : ℕ) → place < length old.cells → on place ≡ false) → Lights on lit old old
lights_none on lit old none = grind arith

-- ---- one character more

shown_more : (page : PageModel) (placed : PlacedCharacter) (lit : Bool) (shown : Option PlacedCharacter)
    → covered lit (lit_cell placed.character.style) (cell_by page shown) ≡ cell_by page (option_or shown (cond lit (Some placed) None))
shown_more page placed lit shown = grind arith

pub shows_more : (face : FaceModel) (page : PageModel) (before : List PlacedCharacter) (placed : PlacedCharacter) (old new : List Cell) → length new ≡ length old
    → Shows face page before old
    → ((other : Cell) (place : ℕ) → place < length old → slice_index_or new place other
    ≡ covered (is_lit_by (place % face.width) (place / face.width) placed) (lit_cell placed.character.style) (slice_index_or old place other))
    → Shows face page (before ++ placed ∷ []) new
shows_more face page before placed old new long shows more = grind (arith, shown_more, find-append)

-- ---- cells that are lit with one style

-- the same cells by another test
pub lights_same : (on more : ℕ → Bool) (lit : Cell) (old new : StyledCells) → ((place : ℕ) → place < length old.cells → on place ≡ more place) → Lights on lit old new
    → Lights more lit old new
lights_same on more lit old new same lights = grind arith

-- some cells, and then some more with the same style
pub lights_more : (before now both : ℕ → Bool) (number : ℕ) (old middle new : StyledCells) → IsLitStyle old.styles number
    → Lights before (style old.styles number) old middle → Lights now (style middle.styles number) middle new
    → ((place : ℕ) → place < length old.cells → (now place || before place) ≡ both place)
    → Lights both (style old.styles number) old new
lights_more before now both number old middle new is first second same = grind arith

-- a style keeps its number
pub still : (number : ℕ) (old new : StyledCells) → new.styles ≡ old.styles → IsLitStyle old.styles number → IsLitStyle new.styles number
still number old new same is = subst (λ styles. IsLitStyle styles number) (sym same) is
