-- The place of a fault lies in the text or at its end.
use Rattle.std.proofs.Common.{◌≡◌, ℕ, zero, suc, ◌≤◌, Bool, true, false, cond, List, [], ◌∷◌, ◌++◌, length, Option, Some, Result, Ok, Err, refl, arith, ltb, ltb-false}
use Rattle.std.specs.Option.{IfSome, option_or, option_map}
use Rattle.std.specs.List.{AllByRecursion}
use Rattle.dms_multi.specs.declared.fault.FaultCode.{FaultCode}
use Rattle.dms_multi.specs.declared.fault.SyntaxFault.{SyntaxFault}
use Rattle.dms_multi.specs.declared.item.Item.{Item}
use Rattle.dms_multi.specs.declared.spots.Spot.{Spot}
use Rattle.dms_multi.specs.Outcomes.{with_outcome, outcomes_within, outcomes_of, fault_in}
use Rattle.dms_multi.specs.TagReading.{item_at}
use Rattle.dms_face.specs.declared.multi_fault.MultiFault.{MultiFault}
use Rattle.dms_face.specs.declared.multi_fault.MultiFaultCode.{MultiFaultCode}
use Rattle.dms_face.specs.declared.multi_fault.MultiFaultCode.TheVariants as codes
use Rattle.dms_face.specs.FaultCode.{syntax_fault}
use Rattle.dms_face.specs.Face.{FaceModel}
use Rattle.dms_face.specs.Layout.{Turn}
use Rattle.dms_codes.specs.Limits.{longest_text}
use Rattle.dms_face.specs.Fit.{PlacedTurn, turns_in, first_fault, fault_of_reading, fault_of}
use Rattle.dms_sign.proofs.InRangeLists.{if_mapped}

-- ---- what a text is read as

abbrev IsPlaced : ℕ → Result Spot SyntaxFault → Type 0
IsPlaced end (Ok spot) = spot.first ≤ end
IsPlaced end (Err fault) = fault.place ≤ end

one_outcome : (end : ℕ) (text : List ℕ) (r : Result (Item × List ℕ) FaultCode) (more : List ℕ → List (Result Spot SyntaxFault))
    → ((rest : List ℕ) → AllByRecursion (IsPlaced end) (more rest)) → AllByRecursion (IsPlaced end) (with_outcome end text r more)
one_outcome end text r more each = grind arith

outcomes_placed : (k end : ℕ) (text : List ℕ) → AllByRecursion (IsPlaced end) (outcomes_within k end text)
unfolding outcomes_within
outcomes_placed zero end text = tt
outcomes_placed (suc k) end [] = tt
outcomes_placed (suc k) end (c ∷ cs) = one_outcome end (c ∷ cs) (item_at (c ∷ cs)) (outcomes_within k end) (outcomes_placed k end)

-- ---- faults

abbrev IsPlacedBy : ℕ → MultiFault → Type 0
IsPlacedBy end fault = fault.place ≤ end

abbrev IsTurnBy : ℕ → PlacedTurn → Type 0
IsTurnBy end turn = turn.1 ≤ end

turns_placed : (end : ℕ) (read : List (Result Spot SyntaxFault)) → AllByRecursion (IsPlaced end) read
    → AllByRecursion (IsTurnBy end) (turns_in end read)
turns_placed end [] placed = (omega arith, tt)
turns_placed end (Ok spot ∷ more) placed = (placed.0, turns_placed end more placed.1)
turns_placed end (Err fault ∷ more) placed = tt

fault_if : (end : ℕ) (b : Bool) (o : Option MultiFault) (code : MultiFaultCode) (place : ℕ) → place ≤ end → IfSome o (IsPlacedBy end)
    → IfSome (cond b o (Some (record { code = code; place = place }))) (IsPlacedBy end)
fault_if end b o code place by later = grind arith

first_placed : (face : FaceModel) (end : ℕ) (front : List Turn) (turns : List PlacedTurn) → AllByRecursion (IsTurnBy end) turns
    → IfSome (first_fault face front turns) (IsPlacedBy end)
first_placed face end front [] placed = tt
first_placed face end front ((turn, place) ∷ more) placed = grind (arith, fault_if, first_placed face end (front ++ turn ∷ []) more placed.1)

syntax_placed : (end : ℕ) (read : List (Result Spot SyntaxFault)) → AllByRecursion (IsPlaced end) read
    → IfSome (fault_in read) (λ fault. fault.place ≤ end)
syntax_placed end [] placed = tt
syntax_placed end (Ok spot ∷ more) placed = syntax_placed end more placed.1
syntax_placed end (Err fault ∷ more) placed = placed.0

either_placed : (end : ℕ) (o p : Option MultiFault) → IfSome o (IsPlacedBy end) → IfSome p (IsPlacedBy end) → IfSome (option_or o p) (IsPlacedBy end)
either_placed end o p first second = grind arith

reading_placed : (face : FaceModel) (end : ℕ) (read : List (Result Spot SyntaxFault)) → AllByRecursion (IsPlaced end) read
    → IfSome (fault_of_reading face end read) (IsPlacedBy end)
reading_placed face end read placed =
    either_placed end (first_fault face [] (turns_in end read)) (option_map syntax_fault (fault_in read))
    (first_placed face end [] (turns_in end read) (turns_placed end read placed))
    (if_mapped (λ (fault : SyntaxFault). fault.place ≤ end) (IsPlacedBy end) syntax_fault (fault_in read) (λ fault h. h) (syntax_placed end read placed))

earlier : (end : ℕ) (o : Option MultiFault) → end ≤ longest_text → IfSome o (IsPlacedBy end) → IfSome o (IsPlacedBy longest_text)
earlier end o short by = grind arith

fault_placed_by : (face : FaceModel) (text : List ℕ) (b : Bool) → ltb longest_text (length text) ≡ b
    → IfSome (cond b (Some (record { code = codes.TextTooBig; place = longest_text })) (fault_of_reading face (length text) (outcomes_of text))) (IsPlacedBy longest_text)
fault_placed_by face text true e = omega arith
fault_placed_by face text false e =
    earlier (length text) (fault_of_reading face (length text) (outcomes_of text)) (ltb-false longest_text (length text) e)
    (reading_placed face (length text) (outcomes_of text) (outcomes_placed (length text) (length text) text))

pub fault_placed : (face : FaceModel) (text : List ℕ) → IfSome (fault_of face text) (λ fault. fault.place ≤ longest_text)
unfolding fault_of
fault_placed face text = fault_placed_by face text (ltb longest_text (length text)) refl
