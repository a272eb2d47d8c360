-- One walk judges the items of a text and lays them out.
use Rattle.std.proofs.Common.{◌≡◌, ℕ, ◌≤◌, ◌<◌, ◌+◌, List, [], ◌∷◌, length, map, fold, Option, Some, None, Result, Ok, Err, sym, ap, ◌∙◌, arith}
use Rattle.dms_codes.specs.Limits.{longest_text}
use Rattle.dms_multi.specs.declared.spots.Spot.{Spot}
use Rattle.dms_multi.specs.declared.fault.SyntaxFault.{SyntaxFault}
use Rattle.dms_multi.specs.Outcomes.{outcomes_of, items_in}
use Rattle.dms_face.specs.declared.multi_fault.MultiFault.{MultiFault}
use Rattle.dms_face.specs.declared.multi_fault.MultiFaultCode.{MultiFaultCode}
use Rattle.dms_face.specs.declared.multi_fault.MultiFaultCode.TheVariants.{TextTooBig}
use Rattle.dms_face.specs.declared.totals.Totals.{Totals}
use Rattle.dms_face.specs.Face.{FaceModel}
use Rattle.dms_face.specs.Layout.{PageModel, Layout, blank_layout, closed, with_turn, with_page}
use Rattle.dms_face.specs.Room.{lines_fit}
use Rattle.dms_face.specs.Fit.{fault_of, or_fault, page_count, checked_text}
use Rattle.dms_face.specs.Cells.{pages_of}
use Rattle.dms_face.specs.OnePass.{room_fault, or_else, walked}
use Rattle.dms_face.specs.Totals.{Matches, Holds, AreSmall}
use Rattle.dms_face.proofs.WalkLaws.{checked_long, checked_walk}
use Rattle.dms_face_pages.proofs.LayingLaws.{laid_all}

-- the fault of an answer, if it is one
abbrev pub fault_in_answer : {A : Type 0} → Result A MultiFault → Option MultiFault
fault_in_answer (Ok value) = None
fault_in_answer (Err fault) = Some fault

fault_of_or_fault : {A : Type 0} (value : A) (fault : Option MultiFault) → fault_in_answer (or_fault value fault) ≡ fault
fault_of_or_fault value fault = grind arith

-- the fault of an answer to the whole text
pub fault_answered : (face : FaceModel) (text : List ℕ) (answer : Result ℕ MultiFault) → answer ≡ checked_text face text → fault_of face text ≡ fault_in_answer answer
fault_answered face text answer is = sym (ap (λ (a : Result ℕ MultiFault). fault_in_answer a) is ∙ fault_of_or_fault (page_count text) (fault_of face text))

-- the pages that a layout and the rest of a text give
abbrev pub pages_after : FaceModel → Layout → List (Result Spot SyntaxFault) → List PageModel
pages_after face layout rest = (with_page (fold (with_turn face) layout (map Some (items_in rest)))).pages

-- The sums match this layout, and it and this rest give the fault and the pages of the text.
pub record IsLaidTo (face : FaceModel) (text : List ℕ) (totals : Totals) (layout : Layout) (rest : List (Result Spot SyntaxFault)) : Type 0 where
  pub holds : Holds face totals layout
  pub small : AreSmall totals
  pub fault : fault_of face text ≡ fault_in_answer (walked face (length text) layout rest)
  pub pages : pages_of face text ≡ pages_after face layout rest

-- Nothing was taken so far.
pub laid_starts : (face : FaceModel) (text : List ℕ) (totals : Totals) (layout : Layout) (rest : List (Result Spot SyntaxFault)) → length text ≤ longest_text
    → Holds face totals (blank_layout face) → AreSmall totals → layout ≡ blank_layout face → rest ≡ outcomes_of text → IsLaidTo face text totals layout rest
laid_starts face text totals layout rest short holds small blank whole = grind (arith, checked_walk, fault_answered, laid_all)

-- The text's end has this fault, or none.
pub end_fault : (face : FaceModel) (text : List ℕ) (totals : Totals) (layout : Layout) (rest : List (Result Spot SyntaxFault)) (fault : Option MultiFaultCode)
    → IsLaidTo face text totals layout rest → rest ≡ [] → ((l : Layout) → Matches totals l → fault ≡ room_fault (lines_fit face (closed l)))
    → fault_of face text ≡ fault_in_answer (or_else (length text) fault (Ok (length layout.pages + 1)))
end_fault face text totals layout rest fault state is found = grind arith

-- A text without a fault is laid out.
pub good_laid : (face : FaceModel) (text : List ℕ) (totals : Totals) (layout last : Layout) (rest : List (Result Spot SyntaxFault)) (fault : Option MultiFaultCode) (pages : List PageModel)
    → IsLaidTo face text totals layout rest → rest ≡ [] → ((l : Layout) → Matches totals l → fault ≡ room_fault (lines_fit face (closed l))) → fault ≡ None
    → last ≡ with_page layout → pages ≡ last.pages → (pages ≡ pages_of face text) × (fault_of face text ≡ None)
good_laid face text totals layout last rest fault pages state is found p closing are = grind arith

-- a text that is too long
pub long_fault : (face : FaceModel) (text : List ℕ) → longest_text < length text → fault_of face text ≡ Some (record { code = TextTooBig; place = longest_text })
long_fault face text long = fault_answered face text (Err (record { code = TextTooBig; place = longest_text })) (checked_long face text long)
