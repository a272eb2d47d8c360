-- A walk over the items of a text finds the times of its pages.
use Rattle.std.proofs.Common.{◌≡◌, ℕ, ◌≤◌, ◌<◌, Bool, true, false, cond, List, [], ◌∷◌, ◌++◌, length, map, take, Option, Some, Result, Ok, Err, unwrap_or, refl, sym, ap, subst, ◌∙◌, arith, append_assoc, length-append}
use Rattle.std.specs.Prelude.{nat_lt}
use Rattle.std.proofs.lemmas.Bool.{ltb-true, ltb-false}
use Rattle.std.proofs.lemmas.List.{map-append, take-append-le, take_all}
use Rattle.dms_multi.specs.declared.item.Item.{Item}
use Rattle.dms_multi.specs.declared.item.Item.TheVariants.{Char, Background, Foreground, Font, FlashOn, FlashEnd, JustLine, JustPage, NewLine, NewPage, PageTime}
use Rattle.dms_multi.specs.declared.spots.Spot.{Spot}
use Rattle.dms_multi.specs.declared.fault.SyntaxFault.{SyntaxFault}
use Rattle.dms_multi.specs.Outcomes.{outcomes_of, items_in, items_of}
use Rattle.dms_face.specs.Face.{FaceModel}
use Rattle.dms_face.specs.Layout.{PageModel}
use Rattle.dms_face.specs.declared.defaults.Defaults.{Defaults}
use Rattle.dms_face.specs.Fit.{most_pages, is_new_page}
use Rattle.dms_face.specs.Cells.{pages_of}
use Rattle.dms_face.specs.Rules.{background_said, on_said, off_said, last_said, PageStyle, page_style, page_said, pages_said}
use Rattle.dms_face.proofs.RuleLaws.{pages_law}
use Rattle.dms_face_times.specs.declared.times.PageTimes.{PageTimes}
use Rattle.dms_face_times.specs.Times.{times_of, page_times}
use Rattle.dms_face_times.specs.Walk.{item_in, first_times, times_after, times_left, pushed, next_pages, next_times}

pub last_more : {A : Type 0} (said : Item → Option A) (default : A) (items : List Item) (item : Item) → last_said said default (items ++ item ∷ []) ≡ unwrap_or (said item) (last_said said default items)
last_more said default [] item = refl
last_more said default (first ∷ items) item = last_more said (unwrap_or (said first) default) items item

-- what holds for the open page after these items
abbrev held : FaceModel → List Item → PageTimes
held face before = record {
  background = last_said (background_said face) face.defaults.background before;
  on = last_said (on_said face) face.defaults.on before;
  off = last_said (off_said face) face.defaults.off before;
}

held_more : (face : FaceModel) (before : List Item) (item : Item) → held face (before ++ item ∷ []) ≡ times_after face.defaults (held face before) item
held_more face before item = grind (arith, last_more, unwrap_or)

abbrev as_times : PageStyle → PageTimes
as_times style = record { background = style.background; on = style.on; off = style.off }

-- the page that an item ends, if it ends one
abbrev ended : PageTimes → Item → List PageTimes
ended now item = cond (is_new_page item) (now ∷ []) []

left_more : (defaults : Defaults) (now : PageTimes) (item : Item) (items : List Item) → times_left defaults now (item ∷ items) ≡ ended now item ++ times_left defaults (times_after defaults now item) items
left_more defaults now item items = grind arith

ended_said : (face : FaceModel) (before : List Item) (item : Item) → ended (held face before) item ≡ map as_times (page_said face before item)
ended_said face before item = grind arith

left_said : (face : FaceModel) (items before : List Item) → times_left face.defaults (held face before) items ≡ map as_times (pages_said face before items)
left_said face [] before = refl
left_said face (item ∷ items) before =
    left_more face.defaults (held face before) item items
    ∙ ap (λ now. ended (held face before) item ++ times_left face.defaults now items) (sym (held_more face before item))
    ∙ ap (λ l. ended (held face before) item ++ l) (left_said face items (before ++ item ∷ []))
    ∙ ap (λ l. l ++ map as_times (pages_said face (before ++ item ∷ []) items)) (ended_said face before item)
    ∙ sym (map-append as_times (page_said face before item) (pages_said face (before ++ item ∷ []) items))

styles_of : (pages : List PageModel) → map as_times (map page_style pages) ≡ map times_of pages
styles_of [] = refl
styles_of (page ∷ pages) = ap (λ rest. times_of page ∷ rest) (styles_of pages)

pub all_times : (face : FaceModel) (text : List ℕ) → take most_pages (times_left face.defaults (first_times face.defaults) (items_of text)) ≡ page_times face text
all_times face text =
    ap (take most_pages) (left_said face (items_of text) [] ∙ sym (ap (map as_times) (pages_law face text)) ∙ styles_of (pages_of face text))

-- ---- at most six

small_of : (n : ℕ) (b : Bool) (pages : List PageTimes) (page : PageTimes) → (b ≡ true → length pages < n) → length pages ≤ n → length (cond b (pages ++ page ∷ []) pages) ≤ n
small_of n true pages page less few = omega (arith, length-append pages (page ∷ []), less refl)
small_of n false pages page less few = few

pub pushed_small : (pages : List PageTimes) (page : PageTimes) → length pages ≤ most_pages → length (pushed pages page) ≤ most_pages
pushed_small pages page few = small_of most_pages (nat_lt (length pages) most_pages) pages page (λ e. ltb-true (length pages) most_pages e) few

some_of : (b : Bool) (pages : List PageTimes) (page : PageTimes) → (b ≡ false → 1 ≤ length pages) → 1 ≤ length (cond b (pages ++ page ∷ []) pages)
some_of true pages page full = omega (arith, length-append pages (page ∷ []))
some_of false pages page full = full refl

pub pushed_some : (pages : List PageTimes) (page : PageTimes) → 1 ≤ length (pushed pages page)
pushed_some pages page = some_of (nat_lt (length pages) most_pages) pages page (λ e. omega (arith, ltb-false (length pages) most_pages e))

more_of : (n : ℕ) (b : Bool) (pages rest : List PageTimes) (page : PageTimes) → (b ≡ false → n ≤ length pages) → take n (cond b (pages ++ page ∷ []) pages ++ rest) ≡ take n (pages ++ page ∷ rest)
more_of n true pages rest page full = ap (take n) (append_assoc pages (page ∷ []) rest)
more_of n false pages rest page full = take-append-le n pages rest (full refl) ∙ sym (take-append-le n pages (page ∷ rest) (full refl))

pub pushed_more : (pages : List PageTimes) (page : PageTimes) (rest : List PageTimes) → take most_pages (pushed pages page ++ rest) ≡ take most_pages (pages ++ page ∷ rest)
pushed_more pages page rest = more_of most_pages (nat_lt (length pages) most_pages) pages rest page (λ e. ltb-false (length pages) most_pages e)

last_of : (n : ℕ) (b : Bool) (pages : List PageTimes) (page : PageTimes) → (b ≡ true → length pages < n) → (b ≡ false → n ≤ length pages) → length pages ≤ n
    → take n (pages ++ page ∷ []) ≡ cond b (pages ++ page ∷ []) pages
last_of n true pages page less full few = take_all n (pages ++ page ∷ []) (omega (arith, length-append pages (page ∷ []), less refl))
last_of n false pages page less full few = take-append-le n pages (page ∷ []) (full refl) ∙ take_all n pages few

pub pushed_last : (pages : List PageTimes) (page : PageTimes) → length pages ≤ most_pages → take most_pages (pages ++ page ∷ []) ≡ pushed pages page
pushed_last pages page few =
    last_of most_pages (nat_lt (length pages) most_pages) pages page (λ e. ltb-true (length pages) most_pages e) (λ e. ltb-false (length pages) most_pages e) few

-- ---- the walk

-- These pages, and what is left of the text, are the pages of the text.
pub record FindsTimes (face : FaceModel) (text : List ℕ) (pages : List PageTimes) (now : PageTimes) (rest : List (Result Spot SyntaxFault)) : Type 0 where
  pub all : take most_pages (pages ++ times_left face.defaults now (items_in rest)) ≡ page_times face text
  pub few : length pages ≤ most_pages

pub finds_first : (face : FaceModel) (text : List ℕ) (pages : List PageTimes) (now : PageTimes) (rest : List (Result Spot SyntaxFault))
    → pages ≡ [] → now ≡ first_times face.defaults → rest ≡ outcomes_of text → FindsTimes face text pages now rest
finds_first face text pages now rest none first whole = record {
  all = ap (λ l. take most_pages (l ++ times_left face.defaults now (items_in rest))) none
      ∙ ap (λ n. take most_pages (times_left face.defaults n (items_in rest))) first
      ∙ ap (λ r. take most_pages (times_left face.defaults (first_times face.defaults) (items_in r))) whole
      ∙ all_times face text;
  few = omega (arith, ap length none);
}

abbrev left : Defaults → List PageTimes → PageTimes → List Item → List PageTimes
left defaults pages now items = take most_pages (pages ++ times_left defaults now items)

item_more : (defaults : Defaults) (pages : List PageTimes) (now : PageTimes) (item : Item) (items : List Item)
    → left defaults (next_pages pages now (Some item)) (times_after defaults now item) items ≡ left defaults pages now (item ∷ items)
item_more defaults pages now (Char character) items = refl
item_more defaults pages now (Background colour) items = refl
item_more defaults pages now (Foreground colour) items = refl
item_more defaults pages now (Font font) items = refl
item_more defaults pages now (FlashOn first lit dark) items = refl
item_more defaults pages now FlashEnd items = refl
item_more defaults pages now (JustLine side) items = refl
item_more defaults pages now (JustPage part) items = refl
item_more defaults pages now (NewLine gap) items = refl
item_more defaults pages now NewPage items = pushed_more pages now (times_left defaults now items)
item_more defaults pages now (PageTime on off) items = refl

next_small : (pages : List PageTimes) (now : PageTimes) (item : Option Item) → length pages ≤ most_pages → length (next_pages pages now item) ≤ most_pages
next_small pages now item few = grind (arith, pushed_small)

pub finds_more : (face : FaceModel) (text : List ℕ) (pages : List PageTimes) (now : PageTimes) (outcome : Result Spot SyntaxFault) (rest : List (Result Spot SyntaxFault))
    → FindsTimes face text pages now (outcome ∷ rest)
    → FindsTimes face text (next_pages pages now (item_in outcome)) (next_times face.defaults now (item_in outcome)) rest
finds_more face text pages now (Ok spot) rest so_far = record {
  all = item_more face.defaults pages now spot.item (items_in rest) ∙ so_far.all;
  few = next_small pages now (Some spot.item) so_far.few;
}
finds_more face text pages now (Err fault) rest so_far = record { all = so_far.all; few = so_far.few }

pub finds_all : (face : FaceModel) (text : List ℕ) (pages : List PageTimes) (now : PageTimes) (rest : List (Result Spot SyntaxFault))
    → FindsTimes face text pages now rest → rest ≡ [] → pushed pages now ≡ page_times face text
finds_all face text pages now rest so_far end =
    sym (pushed_last pages now so_far.few)
    ∙ sym (ap (λ r. take most_pages (pages ++ times_left face.defaults now (items_in r))) end)
    ∙ so_far.all

pub finds_step : (face : FaceModel) (text : List ℕ) (pages next : List PageTimes) (now then : PageTimes) (outcome : Result Spot SyntaxFault) (item : Option Item) (all rest : List (Result Spot SyntaxFault))
    → FindsTimes face text pages now all → all ≡ outcome ∷ rest → item ≡ item_in outcome → next ≡ next_pages pages now item → then ≡ next_times face.defaults now item
    → FindsTimes face text next then rest
finds_step face text pages next now then outcome item all rest so_far are is one other =
    let whole = subst (λ l. FindsTimes face text pages now l) are so_far in
    let more = finds_more face text pages now outcome rest whole in
    let next_is : next ≡ next_pages pages now (item_in outcome) = one ∙ ap (next_pages pages now) is in
    let then_is : then ≡ next_times face.defaults now (item_in outcome) = other ∙ ap (next_times face.defaults now) is in
    subst (λ l. FindsTimes face text l then rest) (sym next_is)
    (subst (λ n. FindsTimes face text (next_pages pages now (item_in outcome)) n rest) (sym then_is) more)

pub finds_done : (face : FaceModel) (text : List ℕ) (pages last : List PageTimes) (now : PageTimes) (rest : List (Result Spot SyntaxFault))
    → FindsTimes face text pages now rest → rest ≡ [] → last ≡ pushed pages now → last ≡ page_times face text
finds_done face text pages last now rest so_far end is = is ∙ finds_all face text pages now rest so_far end

pub some_done : (pages last : List PageTimes) (now : PageTimes) → last ≡ pushed pages now → 1 ≤ length last
some_done pages last now is = subst (λ l. 1 ≤ length l) (sym is) (pushed_some pages now)

pub few_done : (face : FaceModel) (text : List ℕ) (pages last : List PageTimes) (now : PageTimes) (rest : List (Result Spot SyntaxFault))
    → FindsTimes face text pages now rest → last ≡ pushed pages now → length last ≤ most_pages
few_done face text pages last now rest so_far is = subst (λ l. length l ≤ most_pages) (sym is) (pushed_small pages now so_far.few)

pub ruleset finding = (finds_first, finds_step, finds_done, some_done, few_done)
