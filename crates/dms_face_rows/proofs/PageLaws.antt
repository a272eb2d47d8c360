-- A walk over the items of a text lays out one of its pages.
use Rattle.std.proofs.Common.{◌≡◌, ℕ, zero, suc, ◌+◌, ◌-◌, ◌<◌, ◌≤◌, ◌==◌, ◌&&◌, Bool, true, false, cond, List, [], ◌∷◌, ◌++◌, length, fold, Option, Some, None, Result, Ok, Err, refl, sym, ap, ◌∙◌, arith, length-append, inl, inr}
use Rattle.std.proofs.lemmas.List.{append-nil}
use Rattle.std.specs.Prelude.{slice_get}
use Rattle.std.specs.List.{count_by}
use Rattle.std.proofs.lemmas.Bool.{cases_Bool, eqb-true, and_parts}
use Rattle.std.proofs.lemmas.List.Sums.{sum_by-cons}
use Rattle.dms_codes.specs.Limits.{longest_text}
use Rattle.dms_multi.specs.declared.item.Item.{Item}
use Rattle.dms_multi.specs.declared.spots.Spot.{Spot}
use Rattle.dms_multi.specs.declared.fault.SyntaxFault.{SyntaxFault}
use Rattle.dms_multi.specs.declared.fault.FaultCode.{FaultCode}
use Rattle.dms_multi.specs.TagReading.{item_at}
use Rattle.dms_multi.specs.Outcomes.{with_outcome, outcomes_within, outcomes_of, items_in, items_of}
use Rattle.dms_face_font.specs.Glyph.{GlyphModel}
use Rattle.dms_face.specs.Face.{FaceModel}
use Rattle.dms_face.specs.Layout.{Style, PageModel, Layout, closed, with_character, with_item, with_turn, blank_layout}
use Rattle.dms_face.specs.Fit.{is_new_page, turns_of, page_count}
use Rattle.dms_face.specs.Cells.{pages_of}
use Rattle.dms_face_rows.specs.declared.held.HeldPage.{HeldPage}
use Rattle.dms_face_rows.specs.Held.{layout_of, alone, page_now, is_over, others_after, page_from, page_of_text, count_held, IsHeld}

-- ---- what is read of a text is no longer than it

outcome_more : (end : ℕ) (text : List ℕ) (read : Result (Item × List ℕ) FaultCode) (more : List ℕ → List (Result Spot SyntaxFault)) (k : ℕ)
    → ((rest : List ℕ) → length (more rest) ≤ k) → length (with_outcome end text read more) ≤ suc k
outcome_more end text (Ok piece) more k few = omega (arith, few piece.1)
outcome_more end text (Err code) more k few = omega arith

outcomes_few : (k end : ℕ) (text : List ℕ) → length (outcomes_within k end text) ≤ k
unfolding outcomes_within
outcomes_few zero end text = omega arith
outcomes_few (suc k) end [] = omega arith
outcomes_few (suc k) end (c ∷ cs) = outcome_more end (c ∷ cs) (item_at (c ∷ cs)) (outcomes_within k end) k (outcomes_few k end)

-- ---- what one item changes

alone_character : (layout : Layout) (found : Option GlyphModel) → alone (with_character (alone layout) found) ≡ alone (with_character layout found)
alone_character layout None = refl
alone_character layout (Some glyph) = refl

alone_part : (layout : Layout) (style : Style) (b : Bool)
    → alone (cond b (alone layout) (record { pages = []; lines = closed layout; characters = []; gap = None; style = style }))
    ≡ alone (cond b layout (record { pages = layout.pages; lines = closed layout; characters = []; gap = None; style = style }))
alone_part layout style true = refl
alone_part layout style false = refl

alone_item : (face : FaceModel) (layout : Layout) (item : Item) → alone (with_item face (alone layout) item) ≡ alone (with_item face layout item)
alone_item face layout item = grind (arith, alone_character, alone_part)

character_pages : (layout : Layout) (found : Option GlyphModel) → (with_character layout found).pages ≡ layout.pages
character_pages layout None = refl
character_pages layout (Some glyph) = refl

part_pages : (layout : Layout) (style : Style) (b : Bool)
    → (cond b layout (record { pages = layout.pages; lines = closed layout; characters = []; gap = None; style = style })).pages ≡ layout.pages
part_pages layout style true = refl
part_pages layout style false = refl

-- the page that an item ends, if it ends one
abbrev ended : Layout → Bool → List PageModel
ended layout b = cond b (page_now layout ∷ []) []

item_pages : (face : FaceModel) (layout : Layout) (item : Item) → (with_item face layout item).pages ≡ layout.pages ++ ended layout (is_new_page item)
item_pages face layout item = grind (arith, character_pages, part_pages, append-nil)

-- ---- pages that are closed stay

get_front : {A : Type 0} (xs more : List A) (i : ℕ) → i < length xs → slice_get (xs ++ more) i ≡ slice_get xs i
get_front [] more i below = absurd (omega arith)
get_front (x ∷ xs) more zero below = refl
get_front (x ∷ xs) more (suc i) below = get_front xs more i (omega arith)

get_last : {A : Type 0} (xs : List A) (x : A) (rest : List A) → slice_get (xs ++ x ∷ rest) (length xs) ≡ Some x
get_last [] x rest = refl
get_last (y ∷ xs) x rest = get_last xs x rest

pages_stay : (face : FaceModel) (items : List Item) (layout : Layout) (i : ℕ) → i < length layout.pages
    → slice_get (fold (with_turn face) layout (turns_of items)).pages i ≡ slice_get layout.pages i
pages_stay face [] layout i below = get_front layout.pages (page_now layout ∷ []) i below
pages_stay face (item ∷ items) layout i below =
    let more = ended layout (is_new_page item) in
    let long : i < length (with_item face layout item).pages = omega (arith, ap length (item_pages face layout item), length-append layout.pages more, below) in
    pages_stay face items (with_item face layout item) i long
    ∙ ap (λ pages. slice_get pages i) (item_pages face layout item)
    ∙ get_front layout.pages more i below

-- ---- the page of a number

ended_count : (layout : Layout) (b : Bool) → length (ended layout b) ≡ cond b 1 0
ended_count layout true = refl
ended_count layout false = refl

others_less : (others : ℕ) (b : Bool) → ((others == 0) && b) ≡ false → cond b 1 0 + cond b (others - 1) others ≡ others
others_less zero true on = absurd (let wrong : true ≡ false = on in cc)
others_less (suc n) true on = omega arith
others_less others false on = omega arith

page_law : (face : FaceModel) (items : List Item) (layout : Layout) (others : ℕ) → others ≤ count_by is_new_page items
    → slice_get (fold (with_turn face) layout (turns_of items)).pages (length layout.pages + others) ≡ Some (page_from face (alone layout) others items)
page_law face [] layout others few =
    let at : length layout.pages + others ≡ length layout.pages = omega (arith, few) in
    ap (slice_get (layout.pages ++ page_now layout ∷ [])) at ∙ get_last layout.pages (page_now layout) []
page_law face (item ∷ items) layout others few =
    let next = with_item face layout item in
    let more = ended layout (is_new_page item) in
    elim (cases_Bool (is_over others item)) [
      | inl over ↦
          let parts = and_parts (others == 0) (is_new_page item) over in
          let none : others ≡ 0 = eqb-true others 0 parts.0 in
          let at : length layout.pages + others ≡ length layout.pages = omega (arith, none) in
          let pages : next.pages ≡ layout.pages ++ page_now layout ∷ [] = item_pages face layout item ∙ ap (λ b. layout.pages ++ ended layout b) parts.1 in
          let long : length layout.pages < length next.pages = omega (arith, ap length pages, length-append layout.pages (page_now layout ∷ [])) in
          ap (slice_get (fold (with_turn face) next (turns_of items)).pages) at
          ∙ pages_stay face items next (length layout.pages) long
          ∙ ap (λ ps. slice_get ps (length layout.pages)) pages
          ∙ get_last layout.pages (page_now layout) []
          ∙ ap Some (sym (ap (λ b. cond b (page_now layout) (page_from face (alone (with_item face (alone layout) item)) (others_after others item) items)) over))
      | inr on ↦
          let after = others_after others item in
          let sums : cond (is_new_page item) 1 0 + after ≡ others = others_less others (is_new_page item) on in
          let count : count_by is_new_page (item ∷ items) ≡ cond (is_new_page item) 1 0 + count_by is_new_page items = sum_by-cons (λ it. cond (is_new_page it) 1 0) item items in
          let long : length next.pages ≡ length layout.pages + cond (is_new_page item) 1 0 = ap length (item_pages face layout item) ∙ length-append layout.pages more ∙ ap (λ n. length layout.pages + n) (ended_count layout (is_new_page item)) in
          let at : length layout.pages + others ≡ length next.pages + after = omega (arith, sums, long) in
          ap (slice_get (fold (with_turn face) next (turns_of items)).pages) at
          ∙ page_law face items next after (omega (arith, sums, count, few))
          ∙ ap (λ l. Some (page_from face l after items)) (sym (alone_item face layout item))
          ∙ ap Some (sym (ap (λ b. cond b (page_now layout) (page_from face (alone (with_item face (alone layout) item)) after items)) on))
    ]

-- the page of a text with this number
pub numbered_page : (face : FaceModel) (text : List ℕ) (number : ℕ) → number < page_count text
    → slice_get (pages_of face text) number ≡ Some (page_of_text face number text)
unfolding pages_of page_count
numbered_page face text number less =
    ap (slice_get (fold (with_turn face) (blank_layout face) (turns_of (items_of text))).pages) (let e : number ≡ 0 + number = omega arith in e)
    ∙ page_law face (items_of text) (blank_layout face) number (omega (arith, less))

-- ---- the walk, item by item

-- The page so far, with what is left of the text, gives the page.
pub record Lays (face : FaceModel) (text : List ℕ) (number : ℕ) (first : Layout) (page : HeldPage) (others : ℕ) (rest : List (Result Spot SyntaxFault)) : Type 0 where
  pub all : page_from face (layout_of page) others (items_in rest) ≡ page_from face first number (items_of text)
  pub held : IsHeld page
  pub few : count_held page + length rest ≤ longest_text

pub lays_first : (face : FaceModel) (text : List ℕ) (number : ℕ) (page : HeldPage) (rest : List (Result Spot SyntaxFault)) → length text ≤ longest_text → IsHeld page → count_held page ≡ 0
    → rest ≡ outcomes_of text → Lays face text number (layout_of page) page number rest
lays_first face text number page rest short held none whole = record {
  all = ap (λ r. page_from face (layout_of page) number (items_in r)) whole;
  held = held;
  few = omega (arith, ap length whole, outcomes_few (length text) (length text) text, short, none);
}

pub lays_skip : (face : FaceModel) (text : List ℕ) (number : ℕ) (first : Layout) (page : HeldPage) (others : ℕ) (fault : SyntaxFault) (all rest : List (Result Spot SyntaxFault))
    → Lays face text number first page others all → all ≡ Err fault ∷ rest → Lays face text number first page others rest
lays_skip face text number first page others fault all rest so_far are = record {
  all = sym (ap (λ r. page_from face (layout_of page) others (items_in r)) are) ∙ so_far.all;
  held = so_far.held;
  few = omega (arith, so_far.few, ap length are);
}

-- with a spot there is room for what its item adds
pub lays_room : (face : FaceModel) (text : List ℕ) (number : ℕ) (first : Layout) (page : HeldPage) (others : ℕ) (outcome : Result Spot SyntaxFault) (all rest : List (Result Spot SyntaxFault))
    → Lays face text number first page others all → all ≡ outcome ∷ rest → count_held page < longest_text
lays_room face text number first page others outcome all rest so_far are = omega (arith, so_far.few, ap length are)

pub lays_more : (face : FaceModel) (text : List ℕ) (number : ℕ) (first : Layout) (page next : HeldPage) (others left : ℕ) (spot : Spot) (over : Bool) (all rest : List (Result Spot SyntaxFault))
    → Lays face text number first page others all → all ≡ Ok spot ∷ rest → over ≡ is_over others spot.item → over ≡ false → left ≡ others_after others spot.item
    → layout_of next ≡ alone (with_item face (layout_of page) spot.item) → IsHeld next → count_held next ≤ count_held page + 1
    → Lays face text number first next left rest
lays_more face text number first page next others left spot over all rest so_far are tells on after is held few = record {
  all = ap (λ l. page_from face l left (items_in rest)) is
      ∙ ap (λ n. page_from face (alone (with_item face (layout_of page) spot.item)) n (items_in rest)) after
      ∙ sym (ap (λ b. cond b (page_now (layout_of page)) (page_from face (alone (with_item face (layout_of page) spot.item)) (others_after others spot.item) (items_in rest))) (sym tells ∙ on))
      ∙ sym (ap (λ r. page_from face (layout_of page) others (items_in r)) are)
      ∙ so_far.all;
  held = held;
  few = omega (arith, so_far.few, ap length are, few);
}

pub lays_over : (face : FaceModel) (text : List ℕ) (number : ℕ) (first : Layout) (page : HeldPage) (others : ℕ) (spot : Spot) (over : Bool) (all rest : List (Result Spot SyntaxFault))
    → Lays face text number first page others all → all ≡ Ok spot ∷ rest → over ≡ is_over others spot.item → over ≡ true
    → page_now (layout_of page) ≡ page_from face first number (items_of text)
lays_over face text number first page others spot over all rest so_far are tells on =
    sym (ap (λ b. cond b (page_now (layout_of page)) (page_from face (alone (with_item face (layout_of page) spot.item)) (others_after others spot.item) (items_in rest))) (sym tells ∙ on))
    ∙ sym (ap (λ r. page_from face (layout_of page) others (items_in r)) are)
    ∙ so_far.all

pub lays_all : (face : FaceModel) (text : List ℕ) (number : ℕ) (first : Layout) (page : HeldPage) (others : ℕ) (rest : List (Result Spot SyntaxFault))
    → Lays face text number first page others rest → rest ≡ [] → page_now (layout_of page) ≡ page_from face first number (items_of text)
lays_all face text number first page others rest so_far end =
    sym (ap (λ r. page_from face (layout_of page) others (items_in r)) end) ∙ so_far.all

pub lays_few : (face : FaceModel) (text : List ℕ) (number : ℕ) (first : Layout) (page : HeldPage) (others : ℕ) (rest : List (Result Spot SyntaxFault))
    → Lays face text number first page others rest → count_held page ≤ longest_text
lays_few face text number first page others rest so_far = omega (arith, so_far.few)

pub ruleset laying = (lays_first, lays_skip, lays_room, lays_more, lays_over, lays_all, lays_few)
