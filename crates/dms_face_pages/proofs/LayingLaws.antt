-- The items of a text make its pages, one by one.
use Rattle.std.proofs.Common.{◌≡◌, ℕ, ◌≤◌, Bool, true, false, cond, List, [], ◌∷◌, ◌++◌, length, map, fold, Option, Some, None, Result, Ok, Err, refl, sym, ap, ◌∙◌, append_assoc, arith}
use Rattle.std.specs.List.{list_all}
use Rattle.std.specs.Option.{option_or}
use Rattle.std.proofs.lemmas.Bool.{and_parts}
use Rattle.std.proofs.lemmas.Grind.{fold-append}
use Rattle.dms_codes.proofs.Options.{mapped_none}
use Rattle.dms_codes.specs.Limits.{longest_text}
use Rattle.dms_multi.specs.declared.spots.Spot.{Spot}
use Rattle.dms_multi.specs.declared.fault.SyntaxFault.{SyntaxFault}
use Rattle.dms_multi.specs.Outcomes.{items_in, items_of, fault_in, syntax_fault}
use Rattle.dms_face.specs.Face.{FaceModel}
use Rattle.dms_face.specs.Layout.{PageModel, Layout, Turn, blank_layout, with_turn, with_page}
use Rattle.dms_face.specs.Room.{page_fits}
use Rattle.dms_face.specs.Fit.{fits, turns_of, PlacedTurn, turns_in, first_fault, fault_of}
use Rattle.dms_face.specs.Cells.{pages_of}

pub laid_all : (face : FaceModel) (text : List ℕ) → (with_page (fold (with_turn face) (blank_layout face) (map Some (items_of text)))).pages ≡ pages_of face text
unfolding pages_of
laid_all face text = ap (λ (layout : Layout). layout.pages) (sym (fold-append (with_turn face) (blank_layout face) (map Some (items_of text)) (None ∷ [])))

-- ---- the pages of a text without a fault fit

-- a turn that has no fault fits, and none after it has one
passed : (face : FaceModel) (front : List Turn) (turn : Turn) (place : ℕ) (more : List PlacedTurn) → first_fault face front ((turn, place) ∷ more) ≡ None
    → (fits face (front ++ turn ∷ []) ≡ true) × (first_fault face (front ++ turn ∷ []) more ≡ None)
passed face front turn place more p = grind arith

-- where no turn has a fault, all of them fit
all_fit : (face : FaceModel) (front : List Turn) (turn : Turn) (place : ℕ) (more : List PlacedTurn) → first_fault face front ((turn, place) ∷ more) ≡ None
    → fits face (front ++ turn ∷ map (λ (placed : PlacedTurn). placed.0) more) ≡ true
all_fit face front turn place [] none = (passed face front turn place [] none).0
all_fit face front turn place ((next, at) ∷ more) none = grind (arith, passed, append_assoc, all_fit face (front ++ turn ∷ []) next at more ((passed face front turn place ((next, at) ∷ more) none).1))

turns_are : (end : ℕ) (read : List (Result Spot SyntaxFault)) → fault_in read ≡ None → map (λ (placed : PlacedTurn). placed.0) (turns_in end read) ≡ turns_of (items_in read)
turns_are end [] none = refl
turns_are end (Ok spot ∷ read) none = ap (λ turns. Some spot.item ∷ turns) (turns_are end read none)
turns_are end (Err fault ∷ read) none = absurd (let wrong : Some fault ≡ None = none in cc)

reading_fits : (face : FaceModel) (end : ℕ) (read : List (Result Spot SyntaxFault)) → fault_in read ≡ None → first_fault face [] (turns_in end read) ≡ None
    → fits face (turns_of (items_in read)) ≡ true
reading_fits face end [] whole none = all_fit face [] None end [] none
reading_fits face end (Ok spot ∷ read) whole none =
    ap (λ turns. fits face (Some spot.item ∷ turns)) (sym (turns_are end read whole)) ∙ all_fit face [] (Some spot.item) spot.first (turns_in end read) none
reading_fits face end (Err fault ∷ read) whole none = absurd (let wrong : Some fault ≡ None = whole in cc)

neither : {A : Type 0} (a b : Option A) → option_or a b ≡ None → (a ≡ None) × (b ≡ None)
neither a b p = grind arith

otherwise : {A : Type 0} (b : Bool) (x : A) (o : Option A) → cond b (Some x) o ≡ None → o ≡ None
otherwise b x o p = grind arith

within : {A : Type 0} (b : Bool) (x : A) (o : Option A) → cond b (Some x) o ≡ None → b ≡ false
within b x o p = grind arith

-- A text without a fault is short enough, and spells its items.
pub is_read : (face : FaceModel) (text : List ℕ) → fault_of face text ≡ None → (length text ≤ longest_text) × (syntax_fault text ≡ None)
unfolding fault_of
is_read face text none = grind (arith, neither, otherwise, within, mapped_none)

pub pages_fit : (face : FaceModel) (text : List ℕ) → fault_of face text ≡ None → list_all (λ (page : PageModel). page_fits face page.lines) (pages_of face text) ≡ true
unfolding pages_of fault_of
pages_fit face text page = grind (arith, neither, otherwise, reading_fits, mapped_none, and_parts)
