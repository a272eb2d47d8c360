-- A walk over the items of a text finds the next turn of the flashes of a page.
use Rattle.std.proofs.Common.{◌≡◌, ℕ, zero, suc, ◌+◌, ◌-◌, ◌<◌, ◌==◌, cond, List, [], ◌∷◌, ◌++◌, fold, Bool, true, false, Option, Some, None, Result, Ok, Err, unwrap_or, refl, sym, ap, subst, ◌∙◌, arith}
use Rattle.std.specs.List.{count_by}
use Rattle.std.proofs.lemmas.Bool.{cases_Bool, eqb-true}
use Rattle.std.proofs.lemmas.Grind.{fold-append}
use Rattle.std.proofs.lemmas.List.Sums.{sum_by_push}
use Rattle.dms_multi.specs.declared.item.Item.{Item}
use Rattle.dms_multi.specs.declared.item.Item.TheVariants.{Char, Background, Foreground, Font, FlashOn, FlashEnd, JustLine, JustPage, NewLine, NewPage, PageTime}
use Rattle.dms_multi.specs.declared.spots.Spot.{Spot}
use Rattle.dms_multi.specs.declared.fault.SyntaxFault.{SyntaxFault}
use Rattle.dms_multi.specs.Outcomes.{outcomes_of, items_in, items_of}
use Rattle.dms_face_font.specs.Font.{glyph_of}
use Rattle.dms_face.specs.Face.{FaceModel, font_of}
use Rattle.dms_face.specs.Layout.{no_font}
use Rattle.dms_face.specs.Fit.{is_new_page}
use Rattle.dms_face.specs.Cells.{pages_of}
use Rattle.dms_face.specs.Rules.{font_said, flash_said, last_said, character_said, characters_said, characters_from}
use Rattle.dms_face.proofs.RuleLaws.{characters_law}
use Rattle.dms_face_times.specs.Due.{with_character, flashes_due}
use Rattle.dms_face_times.specs.Walk.{item_in, LetteringModel, first_lettering, lettering_after, due_with, due_from, is_over, next_others, next_lettering, next_due}
use Rattle.dms_face_times.proofs.TimeLaws.{last_more}

-- what holds for characters after these items
abbrev letters : FaceModel → List Item → LetteringModel
letters face before = record {
  font = last_said (font_said face) (unwrap_or (font_of face face.defaults.font) no_font) before;
  flash = last_said (flash_said face) None before;
}

letters_more : (face : FaceModel) (before : List Item) (item : Item) → letters face (before ++ item ∷ []) ≡ lettering_after face (letters face before) item
letters_more face before item = grind (arith, last_more, unwrap_or)

count_more : (items : List Item) (item : Item) → count_by is_new_page (items ++ item ∷ []) ≡ count_by is_new_page items + cond (is_new_page item) 1 0
count_more items item = sum_by_push (λ it. cond (is_new_page it) 1 0) items item

-- ---- pages that come later

one_later : (face : FaceModel) (since number : ℕ) (before : List Item) (item : Item) (due : Option ℕ) → number < count_by is_new_page before
    → fold (with_character number since) due (character_said face before item) ≡ due
one_later face since number before item due less = grind (arith, cases_Bool, eqb-true)

later : (face : FaceModel) (since number : ℕ) (items before : List Item) (due : Option ℕ) → number < count_by is_new_page before
    → fold (with_character number since) due (characters_said face before items) ≡ due
later face since number [] before due less = refl
later face since number (item ∷ items) before due less =
    fold-append (with_character number since) due (character_said face before item) (characters_said face (before ++ item ∷ []) items)
    ∙ ap (λ d. fold (with_character number since) d (characters_said face (before ++ item ∷ []) items)) (one_later face since number before item due less)
    ∙ later face since number items (before ++ item ∷ []) due (omega (arith, count_more before item, less))

-- ---- the walk

one_here : (face : FaceModel) (since number : ℕ) (before : List Item) (others character : ℕ) (due : Option ℕ) → number ≡ count_by is_new_page before + others
    → fold (with_character number since) due (character_said face before (Char character))
    ≡ cond (others == 0) (due_with since (letters face before).flash (glyph_of (letters face before).font character) due) due
one_here face since number before others character due is = grind (arith, cases_Bool, eqb-true)

-- what is due after one item more
carry : (face : FaceModel) (since number : ℕ) (before : List Item) (item : Item) (items : List Item) (others : ℕ) (due next : Option ℕ)
    → due_from face since (letters face (before ++ item ∷ [])) others items next ≡ fold (with_character number since) next (characters_said face (before ++ item ∷ []) items)
    → next ≡ fold (with_character number since) due (character_said face before item)
    → due_from face since (lettering_after face (letters face before) item) others items next ≡ fold (with_character number since) due (characters_said face before (item ∷ items))
carry face since number before item items others due next more is =
    ap (λ now. due_from face since now others items next) (sym (letters_more face before item))
    ∙ more
    ∙ ap (λ d. fold (with_character number since) d (characters_said face (before ++ item ∷ []) items)) is
    ∙ sym (fold-append (with_character number since) due (character_said face before item) (characters_said face (before ++ item ∷ []) items))

page_over : (face : FaceModel) (since n : ℕ) (now : LetteringModel) (items : List Item) (due : Option ℕ) → due_from face since now (suc n) (NewPage ∷ items) due ≡ due_from face since now n items due
page_over face since n now items due = grind arith

due_said : (face : FaceModel) (since number : ℕ) (items before : List Item) (others : ℕ) (due : Option ℕ) → number ≡ count_by is_new_page before + others
    → due_from face since (letters face before) others items due ≡ fold (with_character number since) due (characters_said face before items)
due_said face since number [] before others due is = refl
due_said face since number (Char character ∷ items) before others due is =
    let next = cond (others == 0) (due_with since (letters face before).flash (glyph_of (letters face before).font character) due) due in
    carry face since number before (Char character) items others due next
    (due_said face since number items (before ++ Char character ∷ []) others next (omega (arith, count_more before (Char character), is)))
    (sym (one_here face since number before others character due is))
due_said face since number (NewPage ∷ items) before zero due is =
    sym (later face since number items (before ++ NewPage ∷ []) due (omega (arith, count_more before NewPage, is)))
due_said face since number (NewPage ∷ items) before (suc n) due is =
    page_over face since n (letters face before) items due
    ∙ carry face since number before NewPage items n due due (due_said face since number items (before ++ NewPage ∷ []) n due (omega (arith, count_more before NewPage, is))) refl
due_said face since number (Background x ∷ items) before others due is =
    carry face since number before (Background x) items others due due (due_said face since number items (before ++ Background x ∷ []) others due (omega (arith, count_more before (Background x), is))) refl
due_said face since number (Foreground x ∷ items) before others due is =
    carry face since number before (Foreground x) items others due due (due_said face since number items (before ++ Foreground x ∷ []) others due (omega (arith, count_more before (Foreground x), is))) refl
due_said face since number (Font x ∷ items) before others due is =
    carry face since number before (Font x) items others due due (due_said face since number items (before ++ Font x ∷ []) others due (omega (arith, count_more before (Font x), is))) refl
due_said face since number (FlashOn x y z ∷ items) before others due is =
    carry face since number before (FlashOn x y z) items others due due (due_said face since number items (before ++ FlashOn x y z ∷ []) others due (omega (arith, count_more before (FlashOn x y z), is))) refl
due_said face since number (FlashEnd ∷ items) before others due is =
    carry face since number before FlashEnd items others due due (due_said face since number items (before ++ FlashEnd ∷ []) others due (omega (arith, count_more before FlashEnd, is))) refl
due_said face since number (JustLine x ∷ items) before others due is =
    carry face since number before (JustLine x) items others due due (due_said face since number items (before ++ JustLine x ∷ []) others due (omega (arith, count_more before (JustLine x), is))) refl
due_said face since number (JustPage x ∷ items) before others due is =
    carry face since number before (JustPage x) items others due due (due_said face since number items (before ++ JustPage x ∷ []) others due (omega (arith, count_more before (JustPage x), is))) refl
due_said face since number (NewLine x ∷ items) before others due is =
    carry face since number before (NewLine x) items others due due (due_said face since number items (before ++ NewLine x ∷ []) others due (omega (arith, count_more before (NewLine x), is))) refl
due_said face since number (PageTime x y ∷ items) before others due is =
    carry face since number before (PageTime x y) items others due due (due_said face since number items (before ++ PageTime x y ∷ []) others due (omega (arith, count_more before (PageTime x y), is))) refl

pub all_due : (face : FaceModel) (text : List ℕ) (since number : ℕ)
    → due_from face since (first_lettering face) number (items_of text) None ≡ flashes_due number since (characters_from 0 (pages_of face text))
all_due face text since number =
    due_said face since number (items_of text) [] number None (let e : number ≡ 0 + number = omega arith in e)
    ∙ sym (ap (flashes_due number since) (characters_law face text))

-- ---- the walk, item by item

-- What is due, with what is left of the text, is what is due on the page.
pub record FindsDue (face : FaceModel) (text : List ℕ) (since number : ℕ) (now : LetteringModel) (others : ℕ) (rest : List (Result Spot SyntaxFault)) (due : Option ℕ) : Type 0 where
  pub all : due_from face since now others (items_in rest) due ≡ flashes_due number since (characters_from 0 (pages_of face text))

pub finds_first : (face : FaceModel) (text : List ℕ) (since number : ℕ) (now : LetteringModel) (rest : List (Result Spot SyntaxFault))
    → now ≡ first_lettering face → rest ≡ outcomes_of text → FindsDue face text since number now number rest None
finds_first face text since number now rest first whole = record {
  all = ap (λ n. due_from face since n number (items_in rest) None) first
      ∙ ap (λ r. due_from face since (first_lettering face) number (items_in r) None) whole
      ∙ all_due face text since number;
}

due_more : (face : FaceModel) (since : ℕ) (now : LetteringModel) (others : ℕ) (due : Option ℕ) (item : Item) (items : List Item) → is_over others (Some item) ≡ false
    → due_from face since (lettering_after face now item) (next_others others (Some item)) items (next_due since now others (Some item) due) ≡ due_from face since now others (item ∷ items) due
due_more face since now others due (Char character) items on = refl
due_more face since now others due NewPage items on = grind arith
due_more face since now others due (Background x) items on = refl
due_more face since now others due (Foreground x) items on = refl
due_more face since now others due (Font x) items on = refl
due_more face since now others due (FlashOn x y z) items on = refl
due_more face since now others due FlashEnd items on = refl
due_more face since now others due (JustLine x) items on = refl
due_more face since now others due (JustPage x) items on = refl
due_more face since now others due (NewLine x) items on = refl
due_more face since now others due (PageTime x y) items on = refl

pub finds_more : (face : FaceModel) (text : List ℕ) (since number : ℕ) (now : LetteringModel) (others : ℕ) (outcome : Result Spot SyntaxFault) (rest : List (Result Spot SyntaxFault)) (due : Option ℕ)
    → FindsDue face text since number now others (outcome ∷ rest) due → is_over others (item_in outcome) ≡ false
    → FindsDue face text since number (next_lettering face now (item_in outcome)) (next_others others (item_in outcome)) rest (next_due since now others (item_in outcome) due)
finds_more face text since number now others (Ok spot) rest due so_far on = record { all = due_more face since now others due spot.item (items_in rest) on ∙ so_far.all }
finds_more face text since number now others (Err fault) rest due so_far on = record { all = so_far.all }

over_now : (face : FaceModel) (since : ℕ) (now : LetteringModel) (others : ℕ) (due : Option ℕ) (item : Item) (items : List Item) → is_over others (Some item) ≡ true
    → due_from face since now others (item ∷ items) due ≡ due
over_now face since now others due item items over = grind arith

pub finds_over : (face : FaceModel) (text : List ℕ) (since number : ℕ) (now : LetteringModel) (others : ℕ) (outcome : Result Spot SyntaxFault) (rest : List (Result Spot SyntaxFault)) (due : Option ℕ)
    → FindsDue face text since number now others (outcome ∷ rest) due → is_over others (item_in outcome) ≡ true
    → due ≡ flashes_due number since (characters_from 0 (pages_of face text))
finds_over face text since number now others (Ok spot) rest due so_far over = sym (over_now face since now others due spot.item (items_in rest) over) ∙ so_far.all
finds_over face text since number now others (Err fault) rest due so_far over = grind arith

pub finds_all : (face : FaceModel) (text : List ℕ) (since number : ℕ) (now : LetteringModel) (others : ℕ) (rest : List (Result Spot SyntaxFault)) (due : Option ℕ)
    → FindsDue face text since number now others rest due → rest ≡ [] → due ≡ flashes_due number since (characters_from 0 (pages_of face text))
finds_all face text since number now others rest due so_far end =
    sym (ap (λ r. due_from face since now others (items_in r) due) end) ∙ so_far.all

pub finds_step : (face : FaceModel) (text : List ℕ) (since number : ℕ) (now then : LetteringModel) (others left : ℕ) (outcome : Result Spot SyntaxFault) (item : Option Item)
    (all rest : List (Result Spot SyntaxFault)) (due next : Option ℕ) (over : Bool)
    → FindsDue face text since number now others all due → all ≡ outcome ∷ rest → item ≡ item_in outcome → over ≡ is_over others item → over ≡ false
    → next ≡ next_due since now others item due → left ≡ next_others others item → then ≡ next_lettering face now item
    → FindsDue face text since number then left rest next
finds_step face text since number now then others left outcome item all rest due next over so_far are is tells on one two three =
    let whole = subst (λ l. FindsDue face text since number now others l due) are so_far in
    let stays : is_over others (item_in outcome) ≡ false = ap (is_over others) (sym is) ∙ sym tells ∙ on in
    let more = finds_more face text since number now others outcome rest due whole stays in
    subst (λ d. FindsDue face text since number then left rest d) (sym (one ∙ ap (λ i. next_due since now others i due) is))
    (subst (λ n. FindsDue face text since number then n rest (next_due since now others (item_in outcome) due)) (sym (two ∙ ap (next_others others) is))
    (subst (λ n. FindsDue face text since number n (next_others others (item_in outcome)) rest (next_due since now others (item_in outcome) due)) (sym (three ∙ ap (next_lettering face now) is)) more))

pub over_step : (face : FaceModel) (text : List ℕ) (since number : ℕ) (now : LetteringModel) (others : ℕ) (outcome : Result Spot SyntaxFault) (item : Option Item)
    (all rest : List (Result Spot SyntaxFault)) (due : Option ℕ) (over : Bool)
    → FindsDue face text since number now others all due → all ≡ outcome ∷ rest → item ≡ item_in outcome → over ≡ is_over others item → over ≡ true
    → due ≡ flashes_due number since (characters_from 0 (pages_of face text))
over_step face text since number now others outcome item all rest due over so_far are is tells on =
    finds_over face text since number now others outcome rest due (subst (λ l. FindsDue face text since number now others l due) are so_far)
    (ap (is_over others) (sym is) ∙ sym tells ∙ on)

pub ruleset finding = (finds_first, finds_step, over_step, finds_all)
