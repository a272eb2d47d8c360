-- The characters of a page are drawn on one row of its matrix.
use Rattle.std.proofs.Common.{◌≡◌, ℕ, ◌+◌, ◌-◌, ◌<◌, ◌≤◌, ◌==◌, ◌&&◌, ◌||◌, Bool, true, false, cond, List, [], ◌∷◌, ◌++◌, length, map, filter, take, get_or, Option, Some, None, refl, sym, ap, ◌∙◌, arith, inl, inr}
use Rattle.std.specs.Option.{option_or}
use Rattle.std.specs.Prelude.{nat_le, nat_lt, slice_index_or}
use Rattle.std.specs.List.{list_all}
use Rattle.std.proofs.lemmas.Bool.{cases_Bool, and_parts, and_from, leb-true, le-leb, ltb-true, lt-ltb, eqb-true, eq-eqb, or_cases, or_left, or_right, false_from_ne_true}
use Rattle.std.proofs.lemmas.List.{get_or-map, length-map, append-nil}
use Rattle.std.proofs.lemmas.List.Elements.{filter_more}
use Rattle.std.proofs.lemmas.List.Folds.{find-append}
use Rattle.dms_face.specs.declared.cell.Cell.{Cell}
use Rattle.dms_face.specs.declared.justification.Place.{Place}
use Rattle.dms_face.specs.declared.room.Block.{Block}
use Rattle.dms_face_font.specs.Glyph.{GlyphModel, lit_at}
use Rattle.dms_face.specs.Layout.{Character, PageModel}
use Rattle.dms_face.specs.Cells.{PlacedCharacter, is_lit_by, cell_by}
use Rattle.dms_face_pages.specs.Drawing.{covered, lit_cell, has_place}
use Rattle.dms_face_pages.proofs.DrawingLaws.{same_test}
use Rattle.dms_face_pages.proofs.PlacingLaws.{all_at, among}
use Rattle.dms_face_rows.specs.declared.held.HeldLine.{HeldLine}
use Rattle.dms_face_rows.specs.NoGlyph.{no_glyph}
use Rattle.dms_face_rows.specs.Held.{line_of, is_inside}
use Rattle.dms_face_rows.specs.Drawing.{is_lit_from, Lights, Shows}

-- ---- cells that are lit with one cell

kept : (lit cell : Cell) (b : Bool) → cell.lit ≡ b → lit.lit ≡ true → cond (cond b cell lit).lit (cond b cell lit) lit ≡ cond b cell lit
kept lit cell b is on = grind arith

covered_twice : (a b : Bool) (lit cell : Cell) → lit.lit ≡ true → covered a lit (covered b lit cell) ≡ covered (a || b) lit cell
covered_twice true true lit cell on = kept lit cell cell.lit refl on
covered_twice true false lit cell on = refl
covered_twice false b lit cell on = refl

lights_none : (on : ℕ → Bool) (lit : Cell) (cells : List Cell) → ((k : ℕ) → on k ≡ false) → Lights on lit cells cells
lights_none on lit cells none = record { len = refl; cell = λ other k below. ap (λ b. covered b lit (slice_index_or cells k other)) (sym (none k)) }

lights_same : (on more : ℕ → Bool) (lit : Cell) (old new : List Cell) → ((k : ℕ) → on k ≡ more k) → Lights on lit old new → Lights more lit old new
lights_same on more lit old new same lights = record {
  len = lights.len;
  cell = λ other k below. lights.cell other k below ∙ ap (λ b. covered b lit (slice_index_or old k other)) (same k);
}

-- some cells, and then some more
lights_more : (before now both : ℕ → Bool) (lit : Cell) (old middle new : List Cell) → lit.lit ≡ true → Lights before lit old middle → Lights now lit middle new
    → ((k : ℕ) → (now k || before k) ≡ both k) → Lights both lit old new
lights_more before now both lit old middle new on first second same = record {
  len = second.len ∙ first.len;
  cell = λ other k below.
      second.cell other k (omega (arith, below, first.len))
      ∙ ap (covered (now k) lit) (first.cell other k below)
      ∙ covered_twice (now k) (before k) lit (slice_index_or old k other) on
      ∙ ap (λ b. covered b lit (slice_index_or old k other)) (same k);
}

-- ---- a row of a picture, column by column

-- the cells of its first columns
abbrev pub is_done : ℕ → GlyphModel → ℕ → ℕ → ℕ → Bool
is_done x glyph row column k = is_lit_from x glyph row k && nat_lt k (x + column)

done_parts : (x : ℕ) (glyph : GlyphModel) (row column k : ℕ) → is_done x glyph row column k ≡ true → (x ≤ k) × (lit_at glyph (k - x) row ≡ true) × (k < x + column)
done_parts x glyph row column k h =
    let parts = and_parts (is_lit_from x glyph row k) (nat_lt k (x + column)) h in
    let tests = and_parts (nat_le x k) (lit_at glyph (k - x) row) parts.0 in
    (leb-true x k tests.0, tests.1, ltb-true k (x + column) parts.1)

from_parts : (x : ℕ) (glyph : GlyphModel) (row column k : ℕ) → x ≤ k → lit_at glyph (k - x) row ≡ true → k < x + column → is_done x glyph row column k ≡ true
from_parts x glyph row column k low on high =
    and_from (is_lit_from x glyph row k) (nat_lt k (x + column)) (and_from (nat_le x k) (lit_at glyph (k - x) row) (le-leb x k low) on) (lt-ltb k (x + column) high)

below_of : (k n : ℕ) → (k == n) ≡ false → k < n + 1 → k < n
below_of k n apart less = grind (arith, eq-eqb)

none_done : (x : ℕ) (glyph : GlyphModel) (row k : ℕ) → is_done x glyph row 0 k ≡ false
none_done x glyph row k = false_from_ne_true (is_done x glyph row 0 k) (λ h.
    let parts = done_parts x glyph row 0 k h in
    absurd (omega (arith, parts.0, parts.2)))

one_done : (x : ℕ) (glyph : GlyphModel) (row column k : ℕ) → lit_at glyph column row ≡ true
    → ((k == x + column) || is_done x glyph row column k) ≡ is_done x glyph row (column + 1) k
one_done x glyph row column k on = same_test ((k == x + column) || is_done x glyph row column k) (is_done x glyph row (column + 1) k)
    (λ h. elim (or_cases (k == x + column) (is_done x glyph row column k) h) [
      | inl here ↦
          let is : k ≡ x + column = eqb-true k (x + column) here in
          let at : k - x ≡ column = omega (arith, is) in
          from_parts x glyph row (column + 1) k (omega (arith, is)) (ap (λ c. lit_at glyph c row) at ∙ on) (omega (arith, is))
      | inr past ↦
          let parts = done_parts x glyph row column k past in
          from_parts x glyph row (column + 1) k parts.0 parts.1 (omega (arith, parts.2))
    ])
    (λ h.
    let parts = done_parts x glyph row (column + 1) k h in
    elim (cases_Bool (k == x + column)) [
      | inl here ↦ or_left (k == x + column) (is_done x glyph row column k) here
      | inr past ↦ or_right (k == x + column) (is_done x glyph row column k)
          (from_parts x glyph row column k parts.0 parts.1 (below_of k (x + column) past (omega (arith, parts.2))))
    ])

none_more : (x : ℕ) (glyph : GlyphModel) (row column k : ℕ) → lit_at glyph column row ≡ false → is_done x glyph row column k ≡ is_done x glyph row (column + 1) k
none_more x glyph row column k dark = same_test (is_done x glyph row column k) (is_done x glyph row (column + 1) k)
    (λ h.
    let parts = done_parts x glyph row column k h in
    from_parts x glyph row (column + 1) k parts.0 parts.1 (omega (arith, parts.2)))
    (λ h.
    let parts = done_parts x glyph row (column + 1) k h in
    elim (cases_Bool (k == x + column)) [
      | inl here ↦
          let is : k ≡ x + column = eqb-true k (x + column) here in
          let at : k - x ≡ column = omega (arith, is) in
          let wrong : true ≡ false = sym parts.1 ∙ ap (λ c. lit_at glyph c row) at ∙ dark in
          absurd cc
      | inr past ↦ from_parts x glyph row column k parts.0 parts.1 (below_of k (x + column) past (omega (arith, parts.2)))
    ])

all_done : (x : ℕ) (glyph : GlyphModel) (row width k : ℕ) → ((column line : ℕ) → lit_at glyph column line ≡ true → column < width)
    → is_done x glyph row width k ≡ is_lit_from x glyph row k
all_done x glyph row width k within = same_test (is_done x glyph row width k) (is_lit_from x glyph row k)
    (λ h.
    let parts = and_parts (is_lit_from x glyph row k) (nat_lt k (x + width)) h in
    parts.0)
    (λ h.
    let tests = and_parts (nat_le x k) (lit_at glyph (k - x) row) h in
    let low : x ≤ k = leb-true x k tests.0 in
    let near : k - x < width = within (k - x) row tests.1 in
    from_parts x glyph row width k low tests.1 (omega (arith, low, near)))

pub row_first : (x : ℕ) (glyph : GlyphModel) (row : ℕ) (lit : Cell) (cells : List Cell) → Lights (is_done x glyph row 0) lit cells cells
row_first x glyph row lit cells = lights_none _ lit cells (none_done x glyph row)

pub row_lit : (x : ℕ) (glyph : GlyphModel) (row column : ℕ) (lit : Cell) (old middle new : List Cell) → lit.lit ≡ true → lit_at glyph column row ≡ true
    → Lights (is_done x glyph row column) lit old middle → Lights (λ k. k == x + column) lit middle new → Lights (is_done x glyph row (column + 1)) lit old new
row_lit x glyph row column lit old middle new on at so_far more =
    lights_more _ _ _ lit old middle new on so_far more (λ k. one_done x glyph row column k at)

pub row_dark : (x : ℕ) (glyph : GlyphModel) (row column : ℕ) (lit : Cell) (old new : List Cell) → lit_at glyph column row ≡ false
    → Lights (is_done x glyph row column) lit old new → Lights (is_done x glyph row (column + 1)) lit old new
row_dark x glyph row column lit old new at so_far = lights_same _ _ lit old new (λ k. none_more x glyph row column k at) so_far

pub row_all : (x : ℕ) (glyph : GlyphModel) (row width : ℕ) (lit : Cell) (old new : List Cell) → ((column line : ℕ) → lit_at glyph column line ≡ true → column < width)
    → Lights (is_done x glyph row width) lit old new → Lights (is_lit_from x glyph row) lit old new
row_all x glyph row width lit old new within so_far = lights_same _ _ lit old new (λ k. all_done x glyph row width k within) so_far

pub row_below : (x : ℕ) (glyph : GlyphModel) (row height : ℕ) (lit : Cell) (cells : List Cell) → ((column line : ℕ) → lit_at glyph column line ≡ true → line < height) → height ≤ row
    → Lights (is_lit_from x glyph row) lit cells cells
row_below x glyph row height lit cells within below = lights_none (is_lit_from x glyph row) lit cells (λ k. false_from_ne_true (is_lit_from x glyph row k) (λ h.
    let tests = and_parts (nat_le x k) (lit_at glyph (k - x) row) h in
    let less : row < height = within (k - x) row tests.1 in
    absurd (omega (arith, less, below))))

-- ---- a character

abbrev pub placed_at : ℕ → ℕ → Character → PlacedCharacter
placed_at x top character = record { x = x; y = top; character = character }

lit_parts : (x top y k : ℕ) (character : Character) → is_lit_by k y (placed_at x top character) ≡ true → (x ≤ k) × (top ≤ y) × (lit_at character.glyph (k - x) (y - top) ≡ true)
lit_parts x top y k character h =
    let parts = and_parts (nat_le x k && nat_le top y) (lit_at character.glyph (k - x) (y - top)) h in
    let tests = and_parts (nat_le x k) (nat_le top y) parts.0 in
    (leb-true x k tests.0, leb-true top y tests.1, parts.1)

pub above_none : (x top y : ℕ) (character : Character) (lit : Cell) (cells : List Cell) → y < top → Lights (λ k. is_lit_by k y (placed_at x top character)) lit cells cells
above_none x top y character lit cells above = lights_none (λ k. is_lit_by k y (placed_at x top character)) lit cells
    (λ k. false_from_ne_true (is_lit_by k y (placed_at x top character)) (λ h.
    let parts = lit_parts x top y k character h in
    absurd (omega (arith, parts.1, above))))

nothing_lit : (column row : ℕ) → lit_at no_glyph column row ≡ false
nothing_lit column row = refl

pub picture_none : (x top y : ℕ) (character : Character) (lit : Cell) (cells : List Cell) → no_glyph ≡ character.glyph → Lights (λ k. is_lit_by k y (placed_at x top character)) lit cells cells
picture_none x top y character lit cells none = lights_none (λ k. is_lit_by k y (placed_at x top character)) lit cells
    (λ k. false_from_ne_true (is_lit_by k y (placed_at x top character)) (λ h.
    let parts = lit_parts x top y k character h in
    let wrong : false ≡ true = sym (nothing_lit (k - x) (y - top)) ∙ ap (λ glyph. lit_at glyph (k - x) (y - top)) none ∙ parts.2 in
    absurd cc))

pub picture_row : (x top y row : ℕ) (glyph : GlyphModel) (character : Character) (lit : Cell) (old new : List Cell) → top ≤ y → row ≡ y - top → glyph ≡ character.glyph
    → Lights (is_lit_from x glyph row) lit old new → Lights (λ k. is_lit_by k y (placed_at x top character)) lit old new
picture_row x top y row glyph character lit old new below at is lights = lights_same (is_lit_from x glyph row) (λ k. is_lit_by k y (placed_at x top character)) lit old new
    (λ k.
    let same : lit_at glyph (k - x) row ≡ lit_at character.glyph (k - x) (y - top) = ap (λ g. lit_at g (k - x) row) is ∙ ap (lit_at character.glyph (k - x)) at in
    same_test (is_lit_from x glyph row k) (is_lit_by k y (placed_at x top character))
    (λ h.
    let parts = and_parts (nat_le x k) (lit_at glyph (k - x) row) h in
    and_from (nat_le x k && nat_le top y) (lit_at character.glyph (k - x) (y - top)) (and_from (nat_le x k) (nat_le top y) parts.0 (le-leb top y below)) (sym same ∙ parts.1))
    (λ h.
    let parts = lit_parts x top y k character h in
    and_from (nat_le x k) (lit_at glyph (k - x) row) (le-leb x k parts.0) (same ∙ parts.2)))
    lights

-- ---- one character more

shown_more : (page : PageModel) (placed : PlacedCharacter) (lit : Bool) (shown : Option PlacedCharacter)
    → covered lit (lit_cell placed.character.style) (cell_by page shown) ≡ cell_by page (option_or shown (cond lit (Some placed) None))
shown_more page placed lit shown = grind arith

pub shows_more : (page : PageModel) (y : ℕ) (before : List PlacedCharacter) (placed : PlacedCharacter) (old new : List Cell)
    → Shows page y before old → Lights (λ k. is_lit_by k y placed) (lit_cell placed.character.style) old new → Shows page y (before ++ placed ∷ []) new
shows_more page y before placed old new shows lights = record {
  cell = λ other x below.
      let inside : x < length old = omega (arith, below, lights.len) in
      let was = shows.cell other x inside in
      let more = lights.cell other x inside in
      grind (arith, shown_more, find-append);
}

-- ---- lines

pub line_at : (characters : List Character) (lines : List HeldLine) (i : ℕ) (line : HeldLine) → i < length lines → line ≡ get_or lines i line
    → get_or (map (line_of characters) lines) i (line_of characters line) ≡ line_of characters line
line_at characters lines i line below is = get_or-map (line_of characters) lines i line (line_of characters line) below ∙ ap (line_of characters) (sym is)

pub inside_at : (n : ℕ) (lines : List HeldLine) (i : ℕ) (line : HeldLine) → i < length lines → line ≡ get_or lines i line → list_all (is_inside n) lines ≡ true → is_inside n line ≡ true
inside_at n lines i line below is all = all_at (is_inside n) lines i line below (sym is) all

-- the next line of those that are held
pub next_line : (characters : List Character) (items lines : List HeldLine) (i : ℕ) (line : HeldLine) → items ≡ lines → i < length items → line ≡ get_or items i line
    → (i < length (map (line_of characters) lines)) × (get_or (map (line_of characters) lines) i (line_of characters line) ≡ line_of characters line)
next_line characters items lines i line same below is =
    let inside : i < length lines = omega (arith, below, ap length same) in
    (omega (arith, inside, length-map lines (line_of characters)), line_at characters lines i line inside (is ∙ ap (λ l. get_or l i line) same))

-- a thing that is not at the place
pub among_same : {A : Type 0} (block : A → Block) (place : Place) (i : ℕ) (xs : List A) (x : A) → i < length xs → get_or xs i x ≡ x → has_place block place x ≡ false
    → among block place (i + 1) xs ≡ among block place i xs
among_same block place i xs x below at here =
    let p = has_place block place in
    filter_more p xs i x below ∙ ap (λ y. filter p (take i xs) ++ cond (p y) (y ∷ []) []) at ∙ ap (λ b. filter p (take i xs) ++ cond b (x ∷ []) []) here ∙ append-nil (filter p (take i xs))

pub ruleset row = (row_first, row_lit, row_dark, row_all, row_below)

pub ruleset character = (above_none, picture_none, picture_row)
