-- In a good text no two characters light one cell.
use Rattle.std.proofs.Common.{◌≡◌, ℕ, zero, suc, ◌+◌, ◌-◌, ◌<◌, ◌≤◌, ◌==◌, ◌&&◌, ◌⊎◌, Bool, true, false, cond, List, [], ◌∷◌, ◌++◌, length, map, fold, take, max, nat_lt, nat_le, Option, unwrap_or, refl, sym, ap, subst, ◌∙◌, arith, slice_index_or}
use Rattle.std.specs.Prelude.{All, IfSome, filter, flat_map}
use Rattle.std.specs.List.{AllByRecursion, count_by, list_all}
use Rattle.std.proofs.lemmas.Bool.Decides.{nat_tests}
use Rattle.std.proofs.lemmas.List.Sums.{sum_by-cons}
use Rattle.std.proofs.lemmas.List.Elements.{All-from_recursion, recursion_from_All}
use Rattle.std.proofs.Math.Nat.{le-max_left, le-max_right}
use Rattle.dms_multi.specs.declared.item.Item.{Item}
use Rattle.dms_multi.specs.declared.item.Item.TheVariants.{Char, Background, Foreground, Font, FlashOn, FlashEnd, JustLine, JustPage, NewLine, NewPage, PageTime}
use Rattle.dms_multi.specs.Outcomes.{items_of}
use Rattle.dms_multi.proofs.ReadLaws.{items_read}
use Rattle.dms_face_font.specs.Glyph.{GlyphModel}
use Rattle.dms_face_font.specs.Font.{FontModel, IsFont, IsGlyph, glyph_of}
use Rattle.dms_face.specs.declared.justification.Place.{Place}
use Rattle.dms_face.specs.declared.justification.Place.TheVariants.{Start, Halfway, End}
use Rattle.dms_face.specs.declared.room.Block.{Block}
use Rattle.dms_face.specs.Face.{FaceModel, IsFace, font_of}
use Rattle.dms_face.specs.Layout.{Style, Character, Line, PageModel, Turn, is_blank, no_font, blank_layout, layout_of}
use Rattle.dms_face.specs.Room.{is_at, Span, gap_between, extent, placed_from, character_block, line_block, line_height, at_place, extent_at, begin, spread, span, overlap, have_room, blocks_fit, characters_fit, lines_fit, page_fits, has_room}
use Rattle.dms_face.specs.Fit.{are_allowed, fits, turns_of, IsGood}
use Rattle.dms_face.specs.Cells.{pages_of, placed_on, placed_in_line, page_characters, is_lit_by}
use Rattle.dms_face.specs.Rules.{font_said, last_said, style_after, character_with, character_said, characters_said, characters_from, LightsEachCellOnce}
use Rattle.dms_face.specs.Rules as rules
use Rattle.dms_face.proofs.Bools.{both}
use Rattle.dms_face.proofs.RoomLaws.{room_parts}
use Rattle.dms_face.proofs.RuleLaws.{characters_law}
use Rattle.dms_face.proofs.Lists.{all_append, if_found, if_or}

-- ---- what holds of each element

every : {A : Type 0} (P Q : A → Type 0) → ((x : A) → P x → Q x) → (xs : List A) → AllByRecursion P xs → AllByRecursion Q xs
every P Q step [] all = tt
every P Q step (x ∷ xs) all = (step x all.0, every P Q step xs all.1)

every_both : {A : Type 0} (P Q : A → Type 0) (xs : List A) → AllByRecursion P xs → AllByRecursion Q xs → AllByRecursion (λ x. P x × Q x) xs
every_both P Q [] ps qs = tt
every_both P Q (x ∷ xs) ps qs = ((ps.0, qs.0), every_both P Q xs ps.1 qs.1)

every_parts : {A : Type 0} (P : A → Type 0) (xs ys : List A) → AllByRecursion P (xs ++ ys) → AllByRecursion P xs × AllByRecursion P ys
every_parts P [] ys all = (tt, all)
every_parts P (x ∷ xs) ys all = let rest = every_parts P xs ys all.1 in ((all.0, rest.0), rest.1)

every_mapped : {A B : Type 0} (P : B → Type 0) (f : A → B) (xs : List A) → AllByRecursion P (map f xs) → AllByRecursion (λ x. P (f x)) xs
every_mapped P f [] all = tt
every_mapped P f (x ∷ xs) all = (all.0, every_mapped P f xs all.1)

every_flat : {A B : Type 0} (P : B → Type 0) (f : A → List B) (xs : List A) → AllByRecursion P (flat_map f xs) → AllByRecursion (λ x. AllByRecursion P (f x)) xs
every_flat P f [] all = tt
every_flat P f (x ∷ xs) all = let parts = every_parts P (f x) (flat_map f xs) all in (parts.0, every_flat P f xs parts.1)

kept_or_not : {A : Type 0} (P : A → Type 0) (b : Bool) (x : A) (xs : List A) → P x → AllByRecursion P xs → AllByRecursion P (cond b (x ∷ xs) xs)
kept_or_not P b x xs first rest = grind arith

every_filter : {A : Type 0} (P : A → Type 0) (test : A → Bool) (xs : List A) → AllByRecursion P xs → AllByRecursion P (filter test xs)
every_filter P test [] all = tt
every_filter P test (x ∷ xs) all = kept_or_not P (test x) x (filter test xs) all.0 (every_filter P test xs all.1)

every_test : {A : Type 0} (test : A → Bool) (xs : List A) → list_all test xs ≡ true → AllByRecursion (λ x. test x ≡ true) xs
every_test test [] all = tt
every_test test (x ∷ xs) all = let parts = both (test x) (list_all test xs) all in (parts.0, every_test test xs parts.1)

-- ---- how many elements pass a test

abbrev tally : {A : Type 0} → (A → Bool) → List A → ℕ
tally p [] = 0
tally p (x ∷ xs) = cond (p x) 1 0 + tally p xs

tally_append : {A : Type 0} (p : A → Bool) (xs ys : List A) → tally p (xs ++ ys) ≡ tally p xs + tally p ys
tally_append p [] ys = omega arith
tally_append p (x ∷ xs) ys = let more : tally p (xs ++ ys) ≡ tally p xs + tally p ys = tally_append p xs ys in omega (arith, more)

tally_map : {A B : Type 0} (p : B → Bool) (f : A → B) (xs : List A) → tally p (map f xs) ≡ tally (λ x. p (f x)) xs
tally_map p f [] = refl
tally_map p f (x ∷ xs) = ap (λ n. cond (p (f x)) 1 0 + n) (tally_map p f xs)

counted : {A : Type 0} (p : A → Bool) (xs : List A) → count_by p xs ≡ tally p xs
counted p [] = refl
counted p (x ∷ xs) = sum_by-cons (λ it. cond (p it) 1 0) x xs ∙ ap (λ n. cond (p x) 1 0 + n) (counted p xs)

one_fewer : (a b : Bool) (m n : ℕ) → (a ≡ true → b ≡ true) → m ≤ n → cond a 1 0 + m ≤ cond b 1 0 + n
one_fewer a b m n implied le = grind arith

fewer : {A : Type 0} (p q : A → Bool) (xs : List A) → AllByRecursion (λ x. p x ≡ true → q x ≡ true) xs → tally p xs ≤ tally q xs
fewer p q [] all = omega arith
fewer p q (x ∷ xs) all = one_fewer (p x) (q x) (tally p xs) (tally q xs) all.0 (fewer p q xs all.1)

one_none : (a : Bool) (m : ℕ) → (a ≡ true → ⊥) → m ≡ 0 → cond a 1 0 + m ≡ 0
one_none a m never p = grind arith

none_pass : {A : Type 0} (p : A → Bool) (xs : List A) → AllByRecursion (λ x. p x ≡ true → ⊥) xs → tally p xs ≡ 0
none_pass p [] all = refl
none_pass p (x ∷ xs) all = one_none (p x) (tally p xs) all.0 (none_pass p xs all.1)

tally_flat : {A B : Type 0} (p : B → Bool) (g : A → List B) (q : A → Bool) (xs : List A) → AllByRecursion (λ x. tally p (g x) ≤ cond (q x) 1 0) xs
    → tally p (flat_map g xs) ≤ tally q xs
tally_flat p g q [] all = omega arith
tally_flat p g q (x ∷ xs) all = grind (arith, tally_append, tally_flat p g q xs all.1)

-- ---- blocks in a row cover no point twice

-- of blocks that stand from `first` on over `size`, n cover the point c
record Cover (first size c n : ℕ) : Type 0 where
  one : n ≤ 1
  before : c < first → n ≡ 0
  after : first + size ≤ c → n ≡ 0

abbrev covers : {A : Type 0} → (A → Block) → ℕ → ℕ × A → Bool
covers block c placed = nat_le placed.0 c && nat_lt c (placed.0 + (block placed.1).size)

alone : (first size c : ℕ) → Cover first size c (cond (nat_le first c && nat_lt c (first + size)) 1 0)
alone first size c = grind arith

joined : (first size gap more c m n : ℕ) → Cover first size c m → Cover (first + size + gap) more c n → Cover first (size + gap + more) c (m + n)
joined first size gap more c m n a b = grind arith

placed_cover : {A : Type 0} (block : A → Block) (first : ℕ) (xs : List A) (c : ℕ)
    → Cover first (extent (map block xs)) c (tally (covers block c) (placed_from block first xs))
placed_cover block first [] c = record { one = omega arith; before = λ less. refl; after = λ past. refl }
placed_cover block first (x ∷ []) c = grind (arith, nat_le, nat_lt, alone, joined)
placed_cover block first (x ∷ y ∷ rest) c = grind (arith, nat_le, nat_lt, alone, joined, placed_cover block (first + (block x).size + gap_between (block x) (block y)) (y ∷ rest) c)

-- ---- blocks at three places

kept_one : {A : Type 0} (block : A → Block) (b : Bool) (x : A) (xs : List A) → map block (cond b (x ∷ xs) xs) ≡ cond b (block x ∷ map block xs) (map block xs)
kept_one block b x xs = grind arith

kept : {A : Type 0} (block : A → Block) (place : Place) (xs : List A) → map block (filter (λ x. is_at place (block x)) xs) ≡ at_place place (map block xs)
kept block place [] = refl
kept block place (x ∷ xs) =
    kept_one block (is_at place (block x)) x (filter (λ x. is_at place (block x)) xs)
    ∙ ap (λ l. cond (is_at place (block x)) (block x ∷ l) l) (kept block place xs)

abbrev first_of : {A : Type 0} → (A → Block) → ℕ → List A → Place → ℕ
first_of block whole xs place = begin place whole (extent_at place (map block xs))

abbrev side_of : {A : Type 0} → (A → Block) → ℕ → List A → Place → List (ℕ × A)
side_of block whole xs place = placed_from block (first_of block whole xs place) (filter (λ x. is_at place (block x)) xs)

side_cover : {A : Type 0} (block : A → Block) (whole : ℕ) (xs : List A) (c : ℕ) (place : Place)
    → Cover (first_of block whole xs place) (extent_at place (map block xs)) c (tally (covers block c) (side_of block whole xs place))
side_cover block whole xs c place = grind (arith, kept, placed_cover)

apart : (c : ℕ) (a b : Span) (m n : ℕ) → overlap a b ≡ false → Cover a.first a.size c m → Cover b.first b.size c n → (m ≡ 0) ⊎ (n ≡ 0)
apart c a b m n free left right = grind arith

three : (m n k : ℕ) → m ≤ 1 → n ≤ 1 → k ≤ 1 → (m ≡ 0) ⊎ (n ≡ 0) → (m ≡ 0) ⊎ (k ≡ 0) → (n ≡ 0) ⊎ (k ≡ 0) → m + (n + (k + 0)) ≤ 1
three m n k few_m few_n few_k mn mk nk = grind arith

rooms : (whole : ℕ) (a b c : Span) → have_room whole (a ∷ b ∷ c ∷ []) ≡ true → (overlap a b ≡ false) × (overlap a c ≡ false) × (overlap b c ≡ false)
rooms whole a b c room = grind arith

spread_cover : {A : Type 0} (block : A → Block) (whole : ℕ) (xs : List A) → blocks_fit whole (map block xs) ≡ true
    → (c : ℕ) → tally (covers block c) (spread block whole xs) ≤ 1
spread_cover {A} block whole xs fit c =
    let side : Place → List (ℕ × A) = side_of block whole xs in
    let test = covers block c in
    let span_at : Place → Span = λ place. span whole place (extent_at place (map block xs)) in
    let free = rooms whole (span_at Start) (span_at Halfway) (span_at End) fit in
    let a = side_cover block whole xs c Start in
    let b = side_cover block whole xs c Halfway in
    let d = side_cover block whole xs c End in
    let few : tally test (side Start) + (tally test (side Halfway) + (tally test (side End) + 0)) ≤ 1 =
    three (tally test (side Start)) (tally test (side Halfway)) (tally test (side End)) a.one b.one d.one
    (apart c (span_at Start) (span_at Halfway) _ _ free.0 a b) (apart c (span_at Start) (span_at End) _ _ free.1 a d) (apart c (span_at Halfway) (span_at End) _ _ free.2 b d) in
    let parts : tally test (side Start ++ (side Halfway ++ (side End ++ []))) ≡ tally test (side Start) + (tally test (side Halfway) + (tally test (side End) + 0)) =
    tally_append test (side Start) (side Halfway ++ (side End ++ []))
    ∙ ap (λ n. tally test (side Start) + n) (tally_append test (side Halfway) (side End ++ []) ∙ ap (λ n. tally test (side Halfway) + n) (tally_append test (side End) [])) in
    subst (λ n. n ≤ 1) (sym parts) few

every_placed : {A : Type 0} (block : A → Block) (P : A → Type 0) (first : ℕ) (xs : List A) → AllByRecursion P xs → AllByRecursion (λ placed. P placed.1) (placed_from block first xs)
every_placed block P first [] all = tt
every_placed block P first (x ∷ []) all = (all.0, tt)
every_placed block P first (x ∷ y ∷ rest) all = (all.0, every_placed block P (first + (block x).size + gap_between (block x) (block y)) (y ∷ rest) all.1)

every_spread : {A : Type 0} (block : A → Block) (whole : ℕ) (P : A → Type 0) (xs : List A) → AllByRecursion P xs → AllByRecursion (λ placed. P placed.1) (spread block whole xs)
every_spread {A} block whole P xs all =
    let Q : ℕ × A → Type 0 = λ placed. P placed.1 in
    let at : (place : Place) → AllByRecursion Q (side_of block whole xs place) = λ place. every_placed block P (first_of block whole xs place) (filter (λ x. is_at place (block x)) xs) (every_filter P (λ x. is_at place (block x)) xs all) in
    all_append Q (side_of block whole xs Start) (side_of block whole xs Halfway ++ (side_of block whole xs End ++ [])) (at Start)
    (all_append Q (side_of block whole xs Halfway) (side_of block whole xs End ++ []) (at Halfway) (all_append Q (side_of block whole xs End) [] (at End) tt))

-- ---- a picture lights cells of its own block alone

bit_there : (row : List Bool) (i : ℕ) → slice_index_or row i false ≡ true → i < length row
bit_there [] i lit = absurd (let wrong : false ≡ true = lit in cc)
bit_there (b ∷ row) zero lit = omega arith
bit_there (b ∷ row) (suc i) lit = let more : i < length row = bit_there row i lit in omega (arith, more)

row_there : (width column : ℕ) (rows : List (List Bool)) (i : ℕ) → AllByRecursion (λ row. length row ≡ width) rows
    → slice_index_or (slice_index_or rows i []) column false ≡ true → (column < width) × (i < length rows)
row_there width column [] i all lit = absurd (let wrong : false ≡ true = lit in cc)
row_there width column (row ∷ rows) zero all lit = grind (arith, bit_there)
row_there width column (row ∷ rows) (suc i) all lit = let more = row_there width column rows i all.1 lit in (more.0, (let less : i < length rows = more.1 in omega (arith, less)))

abbrev IsPictured : Character → Type 0
IsPictured it = IsGlyph it.style.font.height it.glyph

lit_covers : (x y top : ℕ) (line : Line) (placed : ℕ × Character) → IsPictured placed.1 → placed.1.style.font.height ≤ line_height line
    → is_lit_by x y (placed_on top line placed) ≡ true → (covers character_block x placed ≡ true) × (covers line_block y (top, line) ≡ true)
lit_covers x y top line placed pictured low lit =
    let bottom : ℕ = top + line_height line - placed.1.style.font.height in
    let width : ℕ = placed.1.glyph.width in
    let outer = both (nat_le placed.0 x && nat_le bottom y) _ lit in
    let inner = both (nat_le placed.0 x) (nat_le bottom y) outer.0 in
    let inside = row_there width (x - placed.0) placed.1.glyph.rows (y - bottom) pictured.width_is outer.1 in
    let right : placed.0 ≤ x = (let test = inner.0 in grind (arith, nat_tests)) in
    let below : bottom ≤ y = (let test = inner.1 in grind (arith, nat_tests)) in
    let column : x - placed.0 < width = inside.0 in
    let row : y - bottom < placed.1.style.font.height = (let rows : length placed.1.glyph.rows ≡ placed.1.style.font.height = pictured.height_is in let less = inside.1 in omega (arith, rows, less)) in
    let least_x : nat_le placed.0 x ≡ true = inner.0 in
    let most_x : nat_lt x (placed.0 + width) ≡ true = grind (arith, nat_tests) in
    let least_y : nat_le top y ≡ true = (let from : top ≤ y = omega (arith, low, below) in grind (arith, nat_tests)) in
    let most_y : nat_lt y (top + line_height line) ≡ true = (let to : y < top + line_height line = omega (arith, low, below, row) in grind (arith, nat_tests)) in
    (ap (λ b. b && nat_lt x (placed.0 + width)) least_x ∙ most_x, ap (λ b. b && nat_lt y (top + line_height line)) least_y ∙ most_y)

-- ---- a line's characters light each cell once at most, and those of its block alone

bounded : {A : Type 0} (f : A → ℕ) (xs : List A) (a : ℕ) → (a ≤ fold max a (map f xs)) × AllByRecursion (λ x. f x ≤ fold max a (map f xs)) xs
bounded f [] a = (omega arith, tt)
bounded f (x ∷ xs) a = grind (arith, le-max_left, le-max_right, bounded f xs (max a (f x)))

heights_of : (line : Line) (characters : List Character) → line.characters ≡ characters
    → AllByRecursion (λ (it : Character). it.style.font.height ≤ line_height line) characters
heights_of line [] is = tt
heights_of line (it ∷ more) is =
    subst (λ (all : List Character). AllByRecursion (λ (one : Character). one.style.font.height
    ≤ cond (is_blank all) line.font.height (fold max 0 (map (λ (character : Character). character.style.font.height) all))) (it ∷ more)) (sym is)
    ((bounded (λ (character : Character). character.style.font.height) (it ∷ more) 0).1)

line_lights : (face : FaceModel) (x y : ℕ) (line : Line) → (characters_fit face line.characters ≡ true) × AllByRecursion IsPictured line.characters
    → (top : ℕ) → tally (is_lit_by x y) (placed_in_line face (top, line)) ≤ cond (covers line_block y (top, line)) 1 0
line_lights face x y line holds top =
    let placed : List (ℕ × Character) = spread character_block face.width line.characters in
    let Low : Character → Type 0 = λ it. it.style.font.height ≤ line_height line in
    let test : ℕ × Character → Bool = λ it. is_lit_by x y (placed_on top line it) in
    let each : AllByRecursion (λ (it : ℕ × Character). IsPictured it.1 × Low it.1) placed =
    every_spread character_block face.width (λ it. IsPictured it × Low it) line.characters
    (every_both IsPictured Low line.characters holds.1 (heights_of line line.characters refl)) in
    let inside : AllByRecursion (λ (it : ℕ × Character). test it ≡ true → covers character_block x it ≡ true) placed =
    every (λ (it : ℕ × Character). IsPictured it.1 × Low it.1) (λ it. test it ≡ true → covers character_block x it ≡ true) (λ it both lit. (lit_covers x y top line it both.0 both.1 lit).0) placed each in
    let on_line : AllByRecursion (λ (it : ℕ × Character). test it ≡ true → covers line_block y (top, line) ≡ true) placed =
    every (λ (it : ℕ × Character). IsPictured it.1 × Low it.1) (λ it. test it ≡ true → covers line_block y (top, line) ≡ true) (λ it both lit. (lit_covers x y top line it both.0 both.1 lit).1) placed each in
    let same : tally (is_lit_by x y) (placed_in_line face (top, line)) ≡ tally test placed = tally_map (is_lit_by x y) (placed_on top line) placed in
    let one : tally test placed ≤ 1 =
    (let few : tally test placed ≤ tally (covers character_block x) placed = fewer test (covers character_block x) placed inside in
    let most : tally (covers character_block x) placed ≤ 1 = spread_cover character_block face.width line.characters holds.0 x in
    omega (arith, few, most)) in
    let M : Bool → Type 0 = λ b. covers line_block y (top, line) ≡ b → tally test placed ≤ cond b 1 0 in
    let met : M true = λ is. one in
    let missed : M false = λ is.
    (let none : tally test placed ≡ 0 =
    none_pass test placed (every (λ (it : ℕ × Character). test it ≡ true → covers line_block y (top, line) ≡ true) (λ it. test it ≡ true → ⊥)
    (λ it implied lit. (let wrong : false ≡ true = sym is ∙ implied lit in absurd cc)) placed on_line) in
    omega (arith, none)) in
    let go : (b : Bool) → M b = λ b. elim b as M [ true ↦ met | false ↦ missed ] in
    subst (λ n. n ≤ cond (covers line_block y (top, line)) 1 0) (sym same) (go (covers line_block y (top, line)) refl)

-- ---- pages

page_lights : (face : FaceModel) (x y : ℕ) (page : PageModel) → page_fits face page.lines ≡ true
    → AllByRecursion (λ (line : Line). AllByRecursion IsPictured line.characters) page.lines → tally (is_lit_by x y) (page_characters face page) ≤ 1
page_lights face x y page fit pictured =
    let parts = both (list_all (λ (line : Line). characters_fit face line.characters) page.lines) (lines_fit face page.lines) fit in
    let Holds : Line → Type 0 = λ line. (characters_fit face line.characters ≡ true) × AllByRecursion IsPictured line.characters in
    let lines : AllByRecursion Holds page.lines =
    every_both (λ (line : Line). characters_fit face line.characters ≡ true) (λ (line : Line). AllByRecursion IsPictured line.characters) page.lines
    (every_test (λ (line : Line). characters_fit face line.characters) page.lines parts.0) pictured in
    let placed : List (ℕ × Line) = spread line_block face.height page.lines in
    let each : AllByRecursion (λ (it : ℕ × Line). Holds it.1) placed = every_spread line_block face.height Holds page.lines lines in
    let few : tally (is_lit_by x y) (page_characters face page) ≤ tally (covers line_block y) placed =
    tally_flat (is_lit_by x y) (placed_in_line face) (covers line_block y) placed
    (every (λ (it : ℕ × Line). Holds it.1) (λ it. tally (is_lit_by x y) (placed_in_line face it) ≤ cond (covers line_block y it) 1 0)
    (λ it holds. line_lights face x y it.1 holds it.0) placed each) in
    let most : tally (covers line_block y) placed ≤ 1 = spread_cover line_block face.height page.lines parts.1 y in
    omega (arith, few, most)

-- ---- the characters of a text have pictures of their fonts

abbrev HasPictures : FontModel → Type 0
HasPictures font = AllByRecursion (IsGlyph font.height) font.glyphs

last_is : {A : Type 0} (P : A → Type 0) (said : Item → Option A) (default : A) (items : List Item) → ((item : Item) → IfSome (said item) P) → P default
    → P (last_said said default items)
last_is P said default [] each first = first
last_is P said default (item ∷ items) each first = last_is P said (unwrap_or (said item) default) items each (if_or P (said item) default (each item) first)

font_is : (face : FaceModel) → AllByRecursion HasPictures face.fonts → (number : ℕ) → IfSome (font_of face number) HasPictures
font_is face fonts number = if_found HasPictures (λ (font : FontModel). font.number == number) face.fonts fonts

said_font : (face : FaceModel) → AllByRecursion HasPictures face.fonts → (item : Item) → IfSome (font_said face item) HasPictures
said_font face fonts p = grind (arith, font_is)

style_font : (face : FaceModel) → AllByRecursion HasPictures face.fonts → (items : List Item) → HasPictures (style_after face items).font
style_font face fonts items =
    last_is HasPictures (font_said face) (unwrap_or (font_of face face.defaults.font) no_font) items (said_font face fonts)
    (if_or HasPictures (font_of face face.defaults.font) no_font (font_is face fonts face.defaults.font) tt)

abbrev Drawn : ℕ × Character → Type 0
Drawn placed = IsPictured placed.1

character_drawn : (number : ℕ) (style : Style) (found : Option GlyphModel) → IfSome found (IsGlyph style.font.height) → AllByRecursion Drawn (character_with number style found)
character_drawn number style found some = grind arith

item_drawn : (face : FaceModel) → AllByRecursion HasPictures face.fonts → (before : List Item) (item : Item) → AllByRecursion Drawn (character_said face before item)
item_drawn face fonts before (Char character) =
    character_drawn _ (style_after face before) (glyph_of (style_after face before).font character)
    (if_found (IsGlyph (style_after face before).font.height) (λ (glyph : GlyphModel). glyph.character == character) (style_after face before).font.glyphs (style_font face fonts before))
item_drawn face fonts before (Background colour) = tt
item_drawn face fonts before (Foreground colour) = tt
item_drawn face fonts before (Font font) = tt
item_drawn face fonts before (FlashOn first lit dark) = tt
item_drawn face fonts before FlashEnd = tt
item_drawn face fonts before (JustLine side) = tt
item_drawn face fonts before (JustPage part) = tt
item_drawn face fonts before (NewLine gap) = tt
item_drawn face fonts before NewPage = tt
item_drawn face fonts before (PageTime on off) = tt

all_drawn : (face : FaceModel) → AllByRecursion HasPictures face.fonts → (before items : List Item) → AllByRecursion Drawn (characters_said face before items)
all_drawn face fonts before [] = tt
all_drawn face fonts before (item ∷ items) = grind (arith, all_append, item_drawn, all_drawn face fonts (before ++ item ∷ []) items)

abbrev page_drawn : PageModel → Type 0
page_drawn page = AllByRecursion (λ (line : Line). AllByRecursion IsPictured line.characters) page.lines

pages_drawn : (number : ℕ) (pages : List PageModel) → AllByRecursion Drawn (characters_from number pages) → AllByRecursion page_drawn pages
pages_drawn number [] all = tt
pages_drawn number (page ∷ pages) all =
    let parts = every_parts Drawn (map (λ (it : Character). (number, it)) (rules.line_characters page.lines)) (characters_from (number + 1) pages) all in
    let own : AllByRecursion IsPictured (rules.line_characters page.lines) = every_mapped Drawn (λ (it : Character). (number, it)) (rules.line_characters page.lines) parts.0 in
    (every_flat IsPictured (λ (line : Line). line.characters) page.lines own, pages_drawn (number + 1) pages parts.1)

-- ---- good texts

face_pictures : (face : FaceModel) → IsFace face → AllByRecursion HasPictures face.fonts
face_pictures face is = every IsFont HasPictures (λ font limits. recursion_from_All (IsGlyph font.height) font.glyphs limits.glyphs) face.fonts (recursion_from_All IsFont face.fonts is.fonts)

take_whole : {A : Type 0} (xs : List A) → take (length xs) xs ≡ xs
take_whole [] = refl
take_whole (x ∷ xs) = ap (λ l. x ∷ l) (take_whole xs)

pub apart_law : (face : FaceModel) (text : List ℕ) → IsFace face → IsGood face text → All (LightsEachCellOnce face) (pages_of face text)
unfolding pages_of
apart_law face text is good =
    let items : items_of text ≡ good.items = (items_read good.items text good.spelled).0 in
    let turns : List Turn = turns_of (items_of text) in
    let pages : List PageModel = (layout_of face turns).pages in
    let whole : fits face turns ≡ true =
    subst (λ (l : List Item). fits face (turns_of l) ≡ true) (sym items) (ap (fits face) (sym (take_whole (turns_of good.items))) ∙ good.fit (length (turns_of good.items))) in
    let room = (both (are_allowed face (blank_layout face) turns) (has_room face (layout_of face turns)) whole).1 in
    let Fit : PageModel → Type 0 = λ page. page_fits face page.lines ≡ true in
    let fit : AllByRecursion Fit pages = every_test (λ (page : PageModel). page_fits face page.lines) pages (room_parts face (layout_of face turns) room).pages in
    let drawn : AllByRecursion page_drawn pages = pages_drawn 0 pages (subst (AllByRecursion Drawn) (sym (characters_law face text)) (all_drawn face (face_pictures face is) [] (items_of text))) in
    All-from_recursion (LightsEachCellOnce face) pages
    (every (λ page. Fit page × page_drawn page) (LightsEachCellOnce face) (λ page holds x y. subst (λ n. n ≤ 1) (sym (counted (is_lit_by x y) (page_characters face page))) (page_lights face x y page holds.0 holds.1))
    pages (every_both Fit page_drawn pages fit drawn))
