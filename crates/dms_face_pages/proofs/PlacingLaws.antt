-- Things in a row, one more at the end, and how much room they take.
use Rattle.std.proofs.Common.{◌≡◌, ℕ, ◌+◌, ◌-◌, ◌<◌, ◌≤◌, Bool, true, false, not, cond, List, [], ◌∷◌, ◌++◌, length, get_or, take, drop, filter, map, refl, sym, ap, ◌∙◌, arith, append_assoc}
use Rattle.std.specs.List.{flat_map, list_all}
use Rattle.std.proofs.lemmas.List.Folds.{list_all_at}
use Rattle.std.proofs.lemmas.Bool.{cases_Bool, and_parts, leb-true}
use Rattle.std.proofs.lemmas.List.{take-append-drop, take_more, map-append, append-nil}
use Rattle.std.proofs.lemmas.List.Elements.{filter-append, filter_more}
use Rattle.std.proofs.lemmas.List.Concat.{flat_map-append}
use Rattle.dms_face.specs.declared.justification.Place.{Place}
use Rattle.dms_face.specs.declared.justification.Place.TheVariants.{Start, Halfway, End}
use Rattle.dms_face.specs.declared.room.Block.{Block}
use Rattle.dms_face.specs.declared.room.Run.{Run}
use Rattle.dms_face.specs.Face.{FaceModel}
use Rattle.dms_face.specs.Layout.{Character, Line, is_blank}
use Rattle.dms_face.specs.Room.{gap_between, extent, placed_from, at_place, extent_at, blocks_fit, begin, spread, character_block, line_block, line_height, characters_fit, lines_fit, page_fits}
use Rattle.dms_face.specs.Cells.{PlacedCharacter, placed_in_line}
use Rattle.dms_face_pages.specs.Drawing.{has_place, placed_above, lines_characters}
use Rattle.dms_face.specs.Totals.{Sums}

extent_front : (blocks more : List Block) → extent blocks ≤ extent (blocks ++ more)
extent_front [] more = omega arith
extent_front (a ∷ []) [] = omega arith
extent_front (a ∷ []) (b ∷ more) = omega arith
extent_front (a ∷ b ∷ rest) more = let front : extent (b ∷ rest) ≤ extent ((b ∷ rest) ++ more) = extent_front (b ∷ rest) more in omega arith

pub at_place-map : {A : Type 0} (block : A → Block) (place : Place) (xs : List A) → at_place place (map block xs) ≡ map block (filter (has_place block place) xs)
at_place-map block place [] = refl
at_place-map block place (x ∷ xs) = grind (arith, cases_Bool, at_place-map block place xs)

-- the things of one place among the first ones
abbrev pub among : {A : Type 0} → (A → Block) → Place → ℕ → List A → List A
among block place i xs = filter (has_place block place) (take i xs)

-- their room
pub front_extent : {A : Type 0} (block : A → Block) (place : Place) (i : ℕ) (xs : List A) → extent (map block (among block place i xs)) ≤ extent_at place (map block xs)
front_extent block place i xs =
    let p = has_place block place in
    let split : map block (filter p xs) ≡ map block (filter p (take i xs)) ++ map block (filter p (drop i xs)) =
    ap (λ l. map block (filter p l)) (sym (take-append-drop i xs)) ∙ ap (map block) (filter-append p (take i xs) (drop i xs)) ∙ map-append block (filter p (take i xs)) (filter p (drop i xs)) in
    let front : extent (map block (filter p (take i xs))) ≤ extent (map block (filter p (take i xs)) ++ map block (filter p (drop i xs))) = extent_front (map block (filter p (take i xs))) (map block (filter p (drop i xs))) in
    let whole : extent_at place (map block xs) ≡ extent (map block (filter p xs)) = ap extent (at_place-map block place xs) in
    omega (arith, front, whole, ap extent split)

-- the room of the first things at a place
pub first_extent : {A : Type 0} (block : A → Block) (place : Place) (i : ℕ) (xs : List A) → extent_at place (map block (take i xs)) ≤ extent_at place (map block xs)
first_extent block place i xs = omega (arith, front_extent block place i xs, ap extent (at_place-map block place (take i xs)))

-- one thing more
pub blocks_more : {A : Type 0} (block : A → Block) (i : ℕ) (xs : List A) (x : A) → i < length xs → get_or xs i x ≡ x → map block (take (i + 1) xs) ≡ map block (take i xs) ++ block x ∷ []
blocks_more block i xs x below is =
    ap (map block) (take_more xs i x below) ∙ map-append block (take i xs) (get_or xs i x ∷ []) ∙ ap (λ y. map block (take i xs) ++ block y ∷ []) is

-- without a block no thing is at a place
none_of : {A : Type 0} (block : A → Block) (xs : List A) → not (not (is_blank (map block xs))) ≡ true → xs ≡ []
none_of block [] none = refl
none_of block (x ∷ xs) none = absurd (let wrong : false ≡ true = none in cc)

pub none_at : {A : Type 0} (block : A → Block) (place : Place) (xs : List A) (run : Run) → Sums run (at_place place (map block xs)) → not run.any ≡ true → filter (has_place block place) xs ≡ []
none_at block place xs run sums none =
    none_of block (filter (has_place block place) xs) (ap (λ blocks. not (not (is_blank blocks))) (sym (at_place-map block place xs)) ∙ ap not (sym sums.any) ∙ none)

-- and nothing is placed
pub nothing_placed : {A B : Type 0} (f : ℕ × A → B) (block : A → Block) (place : Place) (start : ℕ) (xs : List A) (run : Run) (before : List B)
    → Sums run (at_place place (map block xs)) → not run.any ≡ true → before ≡ before ++ map f (placed_from block start (filter (has_place block place) xs))
nothing_placed f block place start xs run before sums none =
    sym (ap (λ ys. before ++ map f (placed_from block start ys)) (none_at block place xs run sums none) ∙ append-nil before)

pub nothing_placed_of : {A B : Type 0} (f : ℕ × A → List B) (block : A → Block) (place : Place) (start : ℕ) (xs : List A) (run : Run) (before : List B)
    → Sums run (at_place place (map block xs)) → not run.any ≡ true → before ≡ before ++ flat_map f (placed_from block start (filter (has_place block place) xs))
nothing_placed_of f block place start xs run before sums none =
    sym (ap (λ ys. before ++ flat_map f (placed_from block start ys)) (none_at block place xs run sums none) ∙ append-nil before)

-- The things of each place take no more room than there is.
room_at : (place : Place) (whole : ℕ) (blocks : List Block) → blocks_fit whole blocks ≡ true → extent_at place blocks ≤ whole
room_at Start whole blocks fits = leb-true _ _ (and_parts _ _ (and_parts _ _ fits).0).0
room_at Halfway whole blocks fits = leb-true _ _ (and_parts _ _ (and_parts _ _ (and_parts _ _ fits).1).0).0
room_at End whole blocks fits = leb-true _ _ (and_parts _ _ (and_parts _ _ (and_parts _ _ (and_parts _ _ fits).1).1).0).0

pub characters_within : (place : Place) (face : FaceModel) (line : Line) (characters : List Character) → characters ≡ line.characters
    → characters_fit face line.characters ≡ true → extent_at place (map character_block characters) ≤ face.width
characters_within place face line characters same fit = room_at place face.width (map character_block characters) (ap (characters_fit face) same ∙ fit)

pub lines_within : (place : Place) (face : FaceModel) (lines : List Line) → page_fits face lines ≡ true → extent_at place (map line_block lines) ≤ face.height
lines_within place face lines fit =
    room_at place face.height (map line_block lines) (and_parts (list_all (λ (line : Line). characters_fit face line.characters) lines) (lines_fit face lines) fit).1

-- one thing more, at this place
pub among_more : {A : Type 0} (block : A → Block) (place : Place) (i : ℕ) (xs : List A) (x : A) → i < length xs → get_or xs i x ≡ x → has_place block place x ≡ true
    → among block place (i + 1) xs ≡ among block place i xs ++ x ∷ []
among_more block place i xs x below at here =
    let p = has_place block place in
    filter_more p xs i x below ∙ ap (λ y. filter p (take i xs) ++ cond (p y) (y ∷ []) []) at ∙ ap (λ b. filter p (take i xs) ++ cond b (x ∷ []) []) here

pub sums_more_of : {A : Type 0} (block : A → Block) (place : Place) (i : ℕ) (xs : List A) (x : A) (run : Run) → i < length xs → get_or xs i x ≡ x → has_place block place x ≡ true
    → Sums run (map block (among block place i xs) ++ block x ∷ []) → Sums run (map block (among block place (i + 1) xs))
sums_more_of block place i xs x run below at here sums =
    rw (among_more block place i xs x below at here, map-append block (among block place i xs) (x ∷ [])) sums

-- where the last thing of a row begins
pub placed_push : {A : Type 0} (block : A → Block) (start : ℕ) (xs : List A) (x : A)
    → placed_from block start (xs ++ x ∷ []) ≡ placed_from block start xs ++ (start + extent (map block xs ++ block x ∷ []) - (block x).size, x) ∷ []
placed_push block start [] x = ap (λ n. (n, x) ∷ []) (let e : start ≡ start + (block x).size - (block x).size = omega arith in e)
placed_push block start (y ∷ []) x = grind arith
placed_push block start (y ∷ z ∷ rest) x =
    let next = start + (block y).size + gap_between (block y) (block z) in
    let more = extent (map block (z ∷ rest) ++ block x ∷ []) in
    ap (λ ps. (start, y) ∷ ps) (placed_push block next (z ∷ rest) x)
    ∙ ap (λ n. (start, y) ∷ (placed_from block next (z ∷ rest) ++ (n, x) ∷ []))
    (let e : next + more - (block x).size ≡ start + ((block y).size + gap_between (block y) (block z) + more) - (block x).size = omega arith in e)

-- three parts, one after the other
pub three_parts : {A B : Type 0} (f : A → B) (before : List B) (x y z : List A) → ((before ++ map f x) ++ map f y) ++ map f z ≡ before ++ map f (x ++ (y ++ (z ++ [])))
three_parts f before x y z = grind (arith, append_assoc, map-append, append-nil)

pub last_fits : (blocks : List Block) (block : Block) → block.size ≤ extent (blocks ++ block ∷ [])
last_fits [] block = omega arith
last_fits (a ∷ []) block = omega arith
last_fits (a ∷ b ∷ rest) block = let more : block.size ≤ extent ((b ∷ rest) ++ block ∷ []) = last_fits (b ∷ rest) block in omega arith

-- one thing more of a row, drawn
pub placed_more : {A B : Type 0} (block : A → Block) (place : Place) (i : ℕ) (xs : List A) (x : A) (f : ℕ × A → B) (start at : ℕ) (before : List B)
    → i < length xs → get_or xs i x ≡ x → has_place block place x ≡ true → at ≡ start + extent (map block (among block place i xs) ++ block x ∷ []) - (block x).size
    → (before ++ map f (placed_from block start (among block place i xs))) ++ f (at, x) ∷ [] ≡ before ++ map f (placed_from block start (among block place (i + 1) xs))
placed_more block place i xs x f start at before below is here at_is =
    let front = among block place i xs in
    append_assoc before (map f (placed_from block start front)) (f (at, x) ∷ [])
    ∙ ap (λ l. before ++ l)
    (ap (λ n. map f (placed_from block start front) ++ f (n, x) ∷ []) at_is
    ∙ sym (ap (λ ys. map f (placed_from block start ys)) (among_more block place i xs x below is here) ∙ ap (map f) (placed_push block start front x)
    ∙ map-append f (placed_from block start front) ((start + extent (map block front ++ block x ∷ []) - (block x).size, x) ∷ [])))

pub placed_more_of : {A B : Type 0} (block : A → Block) (place : Place) (i : ℕ) (xs : List A) (x : A) (f : ℕ × A → List B) (start at : ℕ) (before : List B)
    → i < length xs → get_or xs i x ≡ x → has_place block place x ≡ true → at ≡ start + extent (map block (among block place i xs) ++ block x ∷ []) - (block x).size
    → (before ++ flat_map f (placed_from block start (among block place i xs))) ++ f (at, x) ≡ before ++ flat_map f (placed_from block start (among block place (i + 1) xs))
placed_more_of block place i xs x f start at before below is here at_is =
    let front = among block place i xs in
    append_assoc before (flat_map f (placed_from block start front)) (f (at, x))
    ∙ ap (λ l. before ++ l)
    (ap (λ n. flat_map f (placed_from block start front) ++ f (n, x)) at_is
    ∙ ap (λ l. flat_map f (placed_from block start front) ++ l) (sym (append-nil (f (start + extent (map block front ++ block x ∷ []) - (block x).size, x))))
    ∙ sym (ap (λ ys. flat_map f (placed_from block start ys)) (among_more block place i xs x below is here) ∙ ap (flat_map f) (placed_push block start front x)
    ∙ flat_map-append f (placed_from block start front) ((start + extent (map block front ++ block x ∷ []) - (block x).size, x) ∷ [])))

pub three_parts_of : {A B : Type 0} (f : A → List B) (before : List B) (x y z : List A)
    → ((before ++ flat_map f x) ++ flat_map f y) ++ flat_map f z ≡ before ++ flat_map f (x ++ (y ++ (z ++ [])))
three_parts_of f before x y z = grind (arith, append_assoc, flat_map-append, append-nil)

-- the row of a place, of three that have a beginning each
abbrev row : {A : Type 0} → (A → Block) → List A → ℕ → Place → List (ℕ × A)
row block xs start place = placed_from block start (filter (has_place block place) xs)

abbrev rows : {A : Type 0} → (A → Block) → List A → ℕ → ℕ → ℕ → List (ℕ × A)
rows block xs first second third = row block xs first Start ++ (row block xs second Halfway ++ (row block xs third End ++ []))

-- They are spread where each begins at its place.
rows_are : {A : Type 0} (block : A → Block) (whole : ℕ) (xs ys : List A) (first second third : ℕ) → xs ≡ ys
    → first ≡ begin Start whole (extent_at Start (map block xs)) → second ≡ begin Halfway whole (extent_at Halfway (map block xs)) → third ≡ begin End whole (extent_at End (map block xs))
    → rows block xs first second third ≡ spread block whole ys
rows_are block whole xs ys first second third same one two three = grind arith

pub line_is : (face : FaceModel) (top : ℕ) (line : Line) (characters : List Character) (left centre right bottom : ℕ) (before : List PlacedCharacter) → characters ≡ line.characters
    → left ≡ begin Start face.width (extent_at Start (map character_block characters)) → centre ≡ begin Halfway face.width (extent_at Halfway (map character_block characters))
    → right ≡ begin End face.width (extent_at End (map character_block characters)) → bottom ≡ top + line_height line
    → ((before ++ map (placed_above bottom) (row character_block characters left Start)) ++ map (placed_above bottom) (row character_block characters centre Halfway))
    ++ map (placed_above bottom) (row character_block characters right End)
    ≡ before ++ placed_in_line face (top, line)
line_is face top line characters left centre right bottom before same one two three bottom_is =
    three_parts (placed_above bottom) before (row character_block characters left Start) (row character_block characters centre Halfway) (row character_block characters right End)
    ∙ ap (λ l. before ++ map (placed_above bottom) l) (rows_are character_block face.width characters line.characters left centre right same one two three)
    ∙ ap (λ n. before ++ map (placed_above n) (spread character_block face.width line.characters)) bottom_is

pub lines_are : (face : FaceModel) (lines : List Line) (top middle bottom : ℕ) (before : List PlacedCharacter)
    → top ≡ begin Start face.height (extent_at Start (map line_block lines)) → middle ≡ begin Halfway face.height (extent_at Halfway (map line_block lines))
    → bottom ≡ begin End face.height (extent_at End (map line_block lines))
    → ((before ++ flat_map (placed_in_line face) (row line_block lines top Start)) ++ flat_map (placed_in_line face) (row line_block lines middle Halfway))
    ++ flat_map (placed_in_line face) (row line_block lines bottom End)
    ≡ before ++ lines_characters face lines
lines_are face lines top middle bottom before one two three = grind (arith, three_parts_of, rows_are)

-- what all pass, the one at a place does
pub all_at : {A : Type 0} (p : A → Bool) (xs : List A) (i : ℕ) (x : A) → i < length xs → get_or xs i x ≡ x → list_all p xs ≡ true → p x ≡ true
all_at p xs i x below is all = grind (arith, cases_Bool, list_all_at)
