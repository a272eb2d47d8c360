-- Cells are the styles that their numbers name.
use Rattle.std.proofs.Common.{◌≡◌, ℕ, zero, suc, ◌+◌, ◌<◌, ◌==◌, ◌&&◌, Bool, true, false, List, [], ◌∷◌, ◌++◌, length, map, get_or, set, replicate, length-append, refl, ap, ◌∙◌, arith}
use Rattle.std.specs.Prelude.{slice_index_or}
use Rattle.std.proofs.lemmas.Bool.{cases_Bool, and_parts, and_from, eqb-true, eq-eqb}
use Rattle.std.proofs.lemmas.List.{get_or-map, length-map, length-set, get_or-set_same, get_or-set_other, get_or_append_left}
use Rattle.dms_face.specs.declared.cell.Cell.{Cell}
use Rattle.dms_face_pages.specs.Drawn.{unlit}
use Rattle.dms_face_pages.specs.Drawing.{covered}
use Rattle.dms_face_pages.specs.Styled.{StyledCells, style, AreStyled, Lights}

-- cells of these styles, for so many of which there is memory, with these numbers
abbrev pub with_numbers : List Cell → ℕ → List ℕ → StyledCells
with_numbers styles memory numbers = record { styles = styles; memory = memory; cells = map (style styles) numbers }

pub covered_dark : (lit cell : Cell) → cell.lit ≡ false → covered true lit cell ≡ lit
covered_dark lit cell dark = rw dark refl

pub covered_lit : (on : Bool) (lit cell : Cell) → cell.lit ≡ true → covered on lit cell ≡ cell
covered_lit on lit cell bright = grind arith

-- what a cell shows
pub shown_at : (styles : List Cell) (numbers : List ℕ) (place : ℕ) (other : Cell) → place < length numbers
    → slice_index_or (map (style styles) numbers) place other ≡ style styles (get_or numbers place 0)
shown_at styles numbers place other below = get_or-map (style styles) numbers place 0 other below

away : (on b : Bool) → b ≡ false → (on && b) ≡ false
away on b e = grind arith

-- a cell that is not lit yet
pub lit_now : (styles : List Cell) (memory : ℕ) (numbers : List ℕ) (place number : ℕ) (on : Bool) → AreStyled styles numbers → place < length numbers → on ≡ true
    → get_or numbers place 0 ≡ 0
    → Lights (λ k. on && k == place) (style styles number) (with_numbers styles memory numbers) (with_numbers styles memory (set numbers place number))
lit_now styles memory numbers place number on are below now dark = grind (arith, length-map, length-set, get_or, shown_at, cases_Bool, eqb-true, get_or-set_same, covered_dark, and_from, eq-eqb, get_or-set_other, away)

-- a cell that stays: it is not to be lit, or it is lit
pub lit_before : (styles : List Cell) (memory : ℕ) (numbers : List ℕ) (place number : ℕ) (on : Bool) → AreStyled styles numbers
    → (on ≡ true → 0 < get_or numbers place 0)
    → Lights (λ k. on && k == place) (style styles number) (with_numbers styles memory numbers) (with_numbers styles memory numbers)
lit_before styles memory numbers place number on are stays = grind (arith, length-map, cases_Bool, and_parts, eqb-true, get_or, covered_lit, shown_at)

-- a style more
pub style_kept : (styles : List Cell) (lit : Cell) (k : ℕ) → k < length styles → style (styles ++ lit ∷ []) k ≡ style styles k
style_kept styles lit k below = get_or_append_left styles (lit ∷ []) (unlit 0) k below

length_more : (styles : List Cell) (lit : Cell) → length (styles ++ lit ∷ []) ≡ length styles + 1
length_more styles lit = length-append styles (lit ∷ [])

-- and each cell shows what it showed
pub same_cells : (styles : List Cell) (numbers : List ℕ) (lit : Cell) → ((k : ℕ) → k < length numbers → get_or numbers k 0 < length styles)
    → map (style (styles ++ lit ∷ [])) numbers ≡ map (style styles) numbers
same_cells styles [] lit below = refl
same_cells styles (n ∷ numbers) lit below =
    ap (λ cell. cell ∷ map (style (styles ++ lit ∷ [])) numbers) (style_kept styles lit n (below 0 (omega arith)))
    ∙ ap (λ cells. style styles n ∷ cells) (same_cells styles numbers lit (λ k inside. below (suc k) (omega arith)))

map_replicate : {A B : Type 0} (f : A → B) (count : ℕ) (x : A) → map f (replicate count x) ≡ replicate count (f x)
map_replicate f zero x = refl
map_replicate f (suc count) x = ap (λ l. f x ∷ l) (map_replicate f count x)

pub dark_cells : (background count : ℕ) (numbers : List ℕ) → numbers ≡ replicate count 0 → map (style (unlit background ∷ [])) numbers ≡ replicate count (unlit background)
dark_cells background count numbers are = ap (map (style (unlit background ∷ []))) are ∙ map_replicate (style (unlit background ∷ [])) count 0
